-- Items put out one after another.
use Rattle.std.proofs.Common.{◌≡◌, ℕ, zero, suc, ◌+◌, ◌<◌, List, [], ◌∷◌, length, get_or, set, sym, refl, ap, ◌∙◌, arith}
use Rattle.tables.specs.declared.item.Item.{Item}
use Rattle.tables.specs.Items.{blank_at}
use Rattle.rules.specs.Making.{blank_from}

module _ {K V : Type 0} where
  -- the first i items, from place p on, are out
  abbrev pub cleared : ℕ → ℕ → List (Item K V) → List (Item K V)
  cleared p zero its = its
  cleared p (suc i) [] = []
  cleared p (suc i) (it ∷ its) = blank_at p it ∷ cleared (suc p) i its

  cleared_next : (p i : ℕ) (its : List (Item K V)) (d : Item K V) → i < length its → set (cleared p i its) i (blank_at (p + i) (get_or (cleared p i its) i d)) ≡ cleared p (suc i) its
  cleared_next p i [] d h = absurd (omega arith)
  cleared_next p zero (it ∷ its) d h = let e : p + 0 ≡ p = omega arith in ap (λ q. blank_at q it ∷ its) e
  cleared_next p (suc i) (it ∷ its) d h =
      let e : p + suc i ≡ suc p + i = omega arith in
      let was = get_or (cleared (suc p) i its) i d in
      ap (λ xs. blank_at p it ∷ xs) (ap (λ q. set (cleared (suc p) i its) i (blank_at q was)) e ∙ cleared_next (suc p) i its d (omega arith))

  -- one item more
  pub cleared_more : (i : ℕ) (now its : List (Item K V)) (d : Item K V) → now ≡ cleared 0 i its → i < length its → set now i (blank_at i (get_or now i d)) ≡ cleared 0 (i + 1) its
  cleared_more i now its d e h =
      let zeroed : 0 + i ≡ i = omega arith in
      let next : suc i ≡ i + 1 = omega arith in
      ap (λ xs. set xs i (blank_at i (get_or xs i d))) e
      ∙ ap (λ q. set (cleared 0 i its) i (blank_at q (get_or (cleared 0 i its) i d))) (sym zeroed)
      ∙ cleared_next 0 i its d h
      ∙ ap (λ q. cleared 0 q its) next

  cleared_rest : (p : ℕ) (its : List (Item K V)) → cleared p (length its) its ≡ blank_from p its
  cleared_rest p [] = refl
  cleared_rest p (it ∷ its) = ap (λ xs. blank_at p it ∷ xs) (cleared_rest (suc p) its)

  -- all of them
  pub cleared_all : (i : ℕ) (its : List (Item K V)) → i ≡ length its → cleared 0 i its ≡ blank_from 0 its
  cleared_all i its e = ap (λ q. cleared 0 q its) e ∙ cleared_rest 0 its
