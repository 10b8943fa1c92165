-- A ring as the list of its places.
use Rattle.std.specs.Prelude.{◌≡◌, ℕ, zero, suc, ◌≤◌, Bool, true, cond, ◌&&◌, ◌⊎◌, List, [], ◌∷◌, length, Some, ◌==◌, ◌≢◌}
use Rattle.std.specs.List.{slice_get}
use Rattle.std.specs.declared.cmp.Ordering.{Ordering}
use Rattle.rings.specs.Between.{below, at_most}
use Rattle.rings.specs.Rings.{View}

-- x stands in the list
abbrev pub In : {X : Type 0} → X → List X → Type 0
In x [] = ⊥
In x (y ∷ ys) = (x ≡ y) ⊎ In x ys

-- no element stands in the list twice
abbrev pub Once : {X : Type 0} → List X → Type 0
Once [] = Unit {0}
Once (x ∷ xs) = (In x xs → ⊥) × Once xs

-- by the nexts, the way from one place passes these places in turn and comes to another
abbrev pub Follows : (ℕ → ℕ) → ℕ → List ℕ → ℕ → Type 0
Follows next from [] to = from ≡ to
Follows next from (p ∷ ps) to = (from ≡ p) × Follows next (next p) ps to

-- how many numbers below n pass a test
abbrev pub count_below : (ℕ → Bool) → ℕ → ℕ
count_below test zero = 0
count_below test (suc n) = cond (test n) (suc (count_below test n)) (count_below test n)

-- whether a place is in ring in the bucket b
abbrev pub in_bucket : {K : Type 0} → (K → ℕ) → View K → ℕ → ℕ → Bool
in_bucket bucket v b p = v.in_ring p && bucket (v.key p) == b

-- the list starts at the head h, follows the nexts and closes at h; it holds each place of the bucket b that is in ring once
-- and nothing else; it rises at every step but one, the step from the top, where it falls back
pub record RingList {K : Type 0} (order : K → K → Ordering) (bucket : K → ℕ) (v : View K) (n b h : ℕ) (places : List ℕ) : Type 0 where
  pub starts : slice_get places 0 ≡ Some h
  pub closes : Follows v.next h places h
  pub all : (p : ℕ) → v.in_ring p ≡ true → bucket (v.key p) ≡ b → In p places
  pub all_in_ring : (p : ℕ) → In p places → v.in_ring p ≡ true
  pub all_in_bucket : (p : ℕ) → In p places → bucket (v.key p) ≡ b
  pub once : Once places
  pub top : ℕ
  pub top_in : In top places
  pub falls : at_most order (v.key (v.next top)) (v.key top) ≡ true
  pub rises : (p : ℕ) → In p places → (p ≢ top) → below order (v.key p) (v.key (v.next p)) ≡ true
  pub size : length places ≡ count_below (in_bucket bucket v b) n
  pub no_longer : length places ≤ n
