-- What a bounded text holds when more is added to it.
use Rattle.std.specs.Prelude.{ℕ, List, ◌++◌, take}

-- a text of at most n bytes, with more added at its end
unfoldable pub added : ℕ → List ℕ → List ℕ → List ℕ
added n bs more = take n (bs ++ more)
