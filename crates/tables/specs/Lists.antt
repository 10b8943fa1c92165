-- A table as a list.
use Rattle.std.specs.Prelude.{ℕ, zero, suc, List, [], ◌∷◌}

-- the table with one element changed; a place past its end changes nothing
abbrev pub modify : {X : Type 0} → (X → X) → ℕ → List X → List X
modify f i [] = []
modify f zero (x ∷ xs) = f x ∷ xs
modify f (suc i) (x ∷ xs) = x ∷ modify f i xs
