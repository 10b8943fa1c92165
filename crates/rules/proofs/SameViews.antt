-- Two states that are the same part by part, and two plain tables that are, are kept alike.
use Rattle.std.proofs.Common.{◌≡◌, ℕ}
use Rattle.std.specs.declared.cmp.Ordering.{Ordering}
use mathlib.Core.Path.{fun_ext, subst⁻¹}
use Rattle.rules.specs.Plain.{Plain}
use Rattle.rules.proofs.Views.{Whole, Same}
use Rattle.rules.proofs.Invariant.{Kept}

module _ {K V : Type 0} where
  -- the same part by part is the same
  pub same_path : {v w : Whole K V} → Same v w → w ≡ v
  same_path e = λ i. record {
    state = fun_ext e.state i;
    key = fun_ext e.key i;
    value = fun_ext e.value i;
    next = fun_ext e.next i;
    mark = fun_ext e.mark i;
    head = fun_ext e.head i;
    stage = fun_ext e.stage i;
    want = fun_ext e.want i;
    gift = fun_ext e.gift i;
  }

  -- what is kept of a state is kept of the same state
  pub kept_same : (order rank : K → K → Ordering) (bucket : K → ℕ) (plain : Plain K V) (n : ℕ) {v w : Whole K V} → Same v w → Kept order rank bucket plain n v → Kept order rank bucket plain n w
  kept_same order rank bucket plain n e k = subst⁻¹ (λ x. Kept order rank bucket plain n x) (same_path e) k

  -- plain tables with the same entries and the same notes are the same
  pub plain_path : {p q : Plain K V} → q.entries ≡ p.entries → ((s : ℕ) → q.notes s ≡ p.notes s) → q ≡ p
  plain_path e h = λ i. record { entries = e i; notes = fun_ext h i }

  -- what is kept by a plain table is kept by one with the same entries and notes
  pub kept_plain :
      (order rank : K → K → Ordering) (bucket : K → ℕ) {p q : Plain K V} (n : ℕ) (w : Whole K V) →
      q.entries ≡ p.entries → ((s : ℕ) → q.notes s ≡ p.notes s) → Kept order rank bucket p n w → Kept order rank bucket q n w
  kept_plain order rank bucket n w e h k = subst⁻¹ (λ x. Kept order rank bucket x n w) (plain_path e h) k
