-- Adding to a bounded text.
use Rattle.std.proofs.Common.{◌≡◌, ℕ, ◌≤◌, List, [], ◌++◌, length, arith}
use Rattle.std.proofs.lemmas.Grind.{common_steps}
use Rattle.text.specs.Kept.{added}

-- two additions, one after the other, are one
pub added_twice : (n : ℕ) (t a b : List ℕ) → added n (added n t a) b ≡ added n t (a ++ b)
unfolding added
added_twice n t a b = grind (arith, common_steps)

-- nothing is added
pub added_nothing : (n : ℕ) (t : List ℕ) → length t ≤ n → added n t [] ≡ t
unfolding added
added_nothing n t short = grind (arith, common_steps)
