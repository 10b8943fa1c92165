-- How many numbers below n pass a test: for the length of a ring, and for how far a walk round it still has to go.
use Rattle.std.proofs.Common.{◌≡◌, ℕ, zero, suc, ◌<◌, ◌≤◌, Bool, true, false, not, ◌&&◌, eqb, List, [], ◌∷◌, length, refl, inl, inr, arith}
use Rattle.std.proofs.lemmas.Bool.{cases_eq}
use Rattle.rings.specs.RingLists.{In, Once, count_below}

-- the test, but for m, which does not pass
abbrev pub without : (ℕ → Bool) → ℕ → ℕ → Bool
without test m k = test k && not (eqb k m)

-- at most n
pub count_bounded : (test : ℕ → Bool) (n : ℕ) → count_below test n ≤ n
count_bounded test zero = omega arith
count_bounded test (suc n) = let ih = count_bounded test n in grind arith

-- none, if no number passes
pub count_none : (test : ℕ → Bool) → ((k : ℕ) → test k ≡ true → ⊥) → (n : ℕ) → count_below test n ≡ 0
count_none test none zero = omega arith
count_none test none (suc n) = let ih = count_none test none n in let t = none n in grind arith

-- no more than pass a weaker test
pub count_weaker : (f g : ℕ → Bool) → ((k : ℕ) → f k ≡ true → g k ≡ true) → (n : ℕ) → count_below f n ≤ count_below g n
count_weaker f g weaker zero = omega arith
count_weaker f g weaker (suc n) = let ih = count_weaker f g weaker n in let t = weaker n in grind arith

-- a number that is not below n makes no difference
count_outside : (test : ℕ → Bool) (m n : ℕ) → n ≤ m → count_below (without test m) n ≡ count_below test n
count_outside test m zero h = omega arith
count_outside test m (suc n) h =
    let ih = count_outside test m n (omega arith) in
    let d : n ≡ m → ⊥ = omega arith in
    grind arith

-- a number below n that passes adds one
pub count_one : (test : ℕ → Bool) (m : ℕ) → test m ≡ true → (n : ℕ) → m < n → count_below test n ≡ suc (count_below (without test m) n)
count_one test m passes zero l = absurd (omega arith)
count_one test m passes (suc n) l =
    elim (cases_eq m n) [
      | inl e ↦ let o = count_outside test m n (omega arith) in grind arith
      | inr ne ↦ let below : m < n = omega arith in let ih = count_one test m passes n below in grind arith
    ]

-- fewer than pass a weaker test, if a number below n passes only that
pub count_fewer :
    (f g : ℕ → Bool) → ((k : ℕ) → f k ≡ true → g k ≡ true) →
    (m : ℕ) → f m ≡ false → g m ≡ true → (n : ℕ) → m < n → count_below f n < count_below g n
count_fewer f g weaker m fails passes n l =
    let one = count_one g m passes n l in
    let w = count_weaker f (without g m) (λ k t. grind arith) n in
    omega arith

-- a list of the numbers that pass, each once, is as long as they are many
pub count_listed :
    (ps : List ℕ) (test : ℕ → Bool) (n : ℕ) → Once ps → ((p : ℕ) → In p ps → p < n) →
    ((p : ℕ) → In p ps → test p ≡ true) → ((p : ℕ) → test p ≡ true → In p ps) → length ps ≡ count_below test n
count_listed [] test n once within only all = grind (arith, count_none)
count_listed (p ∷ ps) test n once within only all =
    let one = count_one test p (only p (inl refl)) n (within p (inl refl)) in
    let others : (q : ℕ) → In q ps → without test p q ≡ true =
    λ q i. let o = only q (inr i) in let d = cases_eq q p in grind arith in
    let listed : (q : ℕ) → without test p q ≡ true → In q ps =
    λ q t. elim (all q (grind arith)) [ inl e ↦ absurd (grind arith) | inr i ↦ i ] in
    let ih = count_listed ps (without test p) n once.1 (λ q i. within q (inr i)) others listed in
    grind arith
