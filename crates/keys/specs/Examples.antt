-- Worked values of the definitions.
use Rattle.std.specs.Prelude.{◌≡◌, ℕ, List, [], ◌∷◌, codes}
use Rattle.std.specs.Cmp.Lexicographic.{slice_cmp}
use Rattle.std.specs.declared.cmp.Ordering.TheVariants.{Less}
use Rattle.std.specs.Ordering.{nat_cmp}
use Rattle.keys.specs.Berths.{berth_hash}
use Rattle.keys.specs.Bytes.{bytes_hash}
use Rattle.keys.specs.Hashes.{bucket, tag}

-- P holds of each element
abbrev pub Each : {X : Type 0} → (X → Type 0) → List X → Type 0
Each P [] = Unit {0}
Each P (x ∷ xs) = P x × Each P xs

-- berths of harbour 0, with their hashes
abbrev pub berth_hashes : List (ℕ × ℕ)
berth_hashes = (1, 40503) ∷ (2, 15470) ∷ (3, 55973) ∷ (4, 30940) ∷ []

-- names, with their hashes
abbrev pub name_hashes : List (List ℕ × ℕ)
name_hashes = (codes "AB", 2081) ∷ (codes "BA", 2111) ∷ (codes "ABC", 64578) ∷ []

-- names, each with one that comes after it
abbrev pub name_orders : List (List ℕ × List ℕ)
name_orders = (codes "A", codes "AB") ∷ (codes "AB", codes "B") ∷ []

abbrev pub Examples : Type 0
Examples =
    Each (λ c. (berth_hash (record { harbour = 0; berth = c.0 })).value ≡ c.1) berth_hashes
    × Each (λ c. (bytes_hash c.0).value ≡ c.1) name_hashes
    × Each (λ c. slice_cmp nat_cmp c.0 c.1 ≡ Less) name_orders
    × (bucket 8 40503 ≡ 158)
    × (tag 8 40503 ≡ 55)
