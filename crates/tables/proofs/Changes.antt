-- A table with one element changed, as the code changes it.
use Rattle.std.proofs.Common.{◌≡◌, ℕ, zero, suc, ◌<◌, ◌≤◌, List, [], ◌∷◌, length, get_or, set, refl, ap, arith}
use Rattle.tables.specs.Lists.{modify}

-- an element that was changed in place
pub modify-is : {X : Type 0} (f : X → X) (i : ℕ) (xs : List X) (d y : X) → i < length xs → y ≡ f (get_or xs i d) → set xs i y ≡ modify f i xs
modify-is f i [] d y h e = absurd (omega arith)
modify-is f zero (x ∷ xs) d y h e = ap (λ t. t ∷ xs) e
modify-is f (suc i) (x ∷ xs) d y h e = ap (λ t. x ∷ t) (modify-is f i xs d y (omega arith) e)

-- a place past the end
pub modify-past : {X : Type 0} (f : X → X) (i : ℕ) (xs : List X) → length xs ≤ i → modify f i xs ≡ xs
modify-past f i [] h = refl
modify-past f zero (x ∷ xs) h = absurd (omega arith)
modify-past f (suc i) (x ∷ xs) h = ap (λ t. x ∷ t) (modify-past f i xs (omega arith))
