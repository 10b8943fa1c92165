-- What a list of places says of the bytes that it was made from.
use Rattle.std.proofs.Common.{◌≡◌, ℕ, zero, suc, ◌+◌, ◌-◌, ◌≤◌, ◌<◌, Bool, true, false, List, [], ◌∷◌, length, drop, get_or, slice_index, sym, refl, ap, ◌∙◌, arith, ⊎_elim}
use Rattle.std.proofs.lemmas.Bool.{cases_lt, false≢true}
use Rattle.memchr.specs.Find.{Passes, places_from, places_between}

module _ (test : ℕ → Bool) (hay : List ℕ) where
  -- p is the first place from i on that passes, and these are the places after it, of those below j
  pub record Leads (i j p : ℕ) (ps : List ℕ) : Type 0 where
    pub low : i ≤ p
    pub high : p < j
    pub before : (k : ℕ) → i ≤ k → k < p → ¬ Passes test hay k
    pub here : Passes test hay p
    pub rest : ps ≡ places_between test hay (p + 1) j

  none_by : (b : Bool) (i n : ℕ) → test (slice_index hay i) ≡ b → places_from test hay i (suc n) ≡ [] → (places_from test hay (i + 1) n ≡ [] → (k : ℕ) → i + 1 ≤ k → k < i + 1 + n → ¬ Passes test hay k) → (k : ℕ) → i ≤ k → k < i + suc n → ¬ Passes test hay k
  unfolding places_from
  none_by true i n is e later k low high = let no' = rw is at e in absurd (omega (arith, ap length no'))
  none_by false i n is e later k low high =
      let after = rw is at e in
      ⊎_elim (λ lt. later after k (omega arith) (omega arith)) (λ ge passes. let same : k ≡ i = omega arith in absurd (false≢true (sym is ∙ ap (λ x. test (slice_index hay x)) (sym same) ∙ passes))) (cases_lt i k)

  none_from : (i n : ℕ) → places_from test hay i n ≡ [] → (k : ℕ) → i ≤ k → k < i + n → ¬ Passes test hay k
  none_from i zero e k low high = absurd (omega arith)
  none_from i (suc n) e k low high = none_by (test (slice_index hay i)) i n refl e (none_from (i + 1) n) k low high

  first_by : (b : Bool) (i n p : ℕ) (ps : List ℕ) → test (slice_index hay i) ≡ b → places_from test hay i (suc n) ≡ p ∷ ps → (places_from test hay (i + 1) n ≡ p ∷ ps → Leads (i + 1) (i + 1 + n) p ps) → Leads i (i + suc n) p ps
  unfolding places_from
  first_by true i n p ps is e later =
      let here = rw is at e in
      let same : p ≡ i = sym (ap (λ l. get_or l 0 0) here) in
      let count : n ≡ (i + suc n) - (p + 1) = omega arith in
      record {
        low = omega arith;
        high = omega arith;
        before = λ k low high. absurd (omega arith);
        here = ap (λ x. test (slice_index hay x)) same ∙ is;
        rest = sym (ap (drop 1) here) ∙ ap (λ x. places_from test hay (x + 1) n) (sym same) ∙ ap (places_from test hay (p + 1)) count;
      }
  first_by false i n p ps is e later =
      let lead = later (rw is at e) in
      let count : (i + 1 + n) - (p + 1) ≡ (i + suc n) - (p + 1) = omega arith in
      record {
        low = omega (arith, lead.low);
        high = omega (arith, lead.high);
        before = λ k low high.
            ⊎_elim (λ lt. lead.before k (omega arith) high) (λ ge passes. let same : k ≡ i = omega arith in absurd (false≢true (sym is ∙ ap (λ x. test (slice_index hay x)) (sym same) ∙ passes))) (cases_lt i k);
        here = lead.here;
        rest = lead.rest ∙ ap (places_from test hay (p + 1)) count;
      }

  first_from : (i n p : ℕ) (ps : List ℕ) → places_from test hay i n ≡ p ∷ ps → Leads i (i + n) p ps
  unfolding places_from
  first_from i zero p ps e = absurd (omega (arith, ap length e))
  first_from i (suc n) p ps e = first_by (test (slice_index hay i)) i n p ps refl e (first_from (i + 1) n p ps)

  pub places_lead : (i j p : ℕ) (ps : List ℕ) → i ≤ j → places_between test hay i j ≡ p ∷ ps → Leads i j p ps
  places_lead i j p ps le e = let count : i + (j - i) ≡ j = omega arith in rw count at (first_from i (j - i) p ps e)

  pub places_none : (i j : ℕ) → i ≤ j → places_between test hay i j ≡ [] → (k : ℕ) → i ≤ k → k < j → ¬ Passes test hay k
  places_none i j le e k low high = none_from i (j - i) e k low (omega arith)
