-- Lists as `nth` reads them, after a change too.
use Rattle.std.proofs.Common.{◌≡◌, ℕ, zero, suc, ◌<◌, cond, eqb, List, [], ◌∷◌, length, set, Some, refl, arith}
use lib.Dec.{eqb-zero-suc, eqb-suc-zero, eqb-suc-suc}
use Rattle.std.specs.List.{slice_get}
use Rattle.std.specs.Option.{option_map}
use Rattle.tables.specs.Lists.{modify}

module _ {X : Type 0} where
  -- an index below the length reads an element
  pub nth_within : (xs : List X) (i : ℕ) → i < length xs → (x : X) × (slice_get xs i ≡ Some x)
  nth_within [] i h = absurd (omega arith)
  nth_within (x ∷ xs) zero h = (x, refl)
  nth_within (x ∷ xs) (suc i) h = nth_within xs i (omega arith)

  -- an index that reads an element is below the length
  pub nth_bound : (xs : List X) (i : ℕ) (x : X) → slice_get xs i ≡ Some x → i < length xs
  nth_bound [] i x e = absurd (grind arith)
  nth_bound (y ∷ xs) zero x e = omega arith
  nth_bound (y ∷ xs) (suc i) x e = let ih = nth_bound xs i x e in omega arith

  -- only the element at the index is changed
  pub nth-modify : (f : X → X) (i : ℕ) (xs : List X) (j : ℕ) → slice_get (modify f i xs) j ≡ cond (eqb j i) (option_map f (slice_get xs j)) (slice_get xs j)
  nth-modify f i [] j = grind arith
  nth-modify f zero (x ∷ xs) zero = refl
  nth-modify f zero (x ∷ xs) (suc j) = rw eqb-suc-zero
  nth-modify f (suc i) (x ∷ xs) zero = rw eqb-zero-suc
  nth-modify f (suc i) (x ∷ xs) (suc j) = rw eqb-suc-suc (nth-modify f i xs j)

  -- a change leaves the length
  pub length-modify : (f : X → X) (i : ℕ) (xs : List X) → length (modify f i xs) ≡ length xs
  length-modify f i [] = refl
  length-modify f zero (x ∷ xs) = refl
  length-modify f (suc i) (x ∷ xs) = let ih = length-modify f i xs in omega arith

  -- only the element at the index is written, if there is one
  pub nth-set : (xs : List X) (i : ℕ) (y : X) (j : ℕ) → i < length xs → slice_get (set xs i y) j ≡ cond (eqb j i) (Some y) (slice_get xs j)
  nth-set [] i y j h = absurd (omega arith)
  nth-set (x ∷ xs) zero y zero h = refl
  nth-set (x ∷ xs) zero y (suc j) h = rw eqb-suc-zero
  nth-set (x ∷ xs) (suc i) y zero h = rw eqb-zero-suc
  nth-set (x ∷ xs) (suc i) y (suc j) h = rw eqb-suc-suc (nth-set xs i y j (omega arith))
