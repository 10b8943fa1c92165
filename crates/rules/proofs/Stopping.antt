-- A session stops: it ends, or is collected or abandoned. What it has set aside goes out, and what it has claimed is marked no more.
use Rattle.std.proofs.Common.{◌≡◌, ℕ, Bool, true, false, Some, None, Option, sym, refl, ap, ◌∙◌, arith}
use Rattle.std.specs.declared.cmp.Ordering.{Ordering}
use Rattle.tables.specs.declared.item.ItemState.{ItemState}
use Rattle.tables.specs.declared.item.ItemState.TheVariants.{Out}
use Rattle.tables.specs.declared.session.Job.{Job}
use Rattle.tables.specs.declared.session.Stage.{Stage}
use Rattle.tables.specs.declared.session.Stage.TheVariants.{UnderWay, Ended}
use Rattle.tables.specs.declared.session.Work.TheVariants.{Seeking}
use Rattle.tables.specs.Items.{is_in_ring}
use Rattle.tables.specs.Sessions.{aside_of, operation_of}
use Rattle.rules.specs.Plain.{Plain, answer, noting}
use Rattle.rules.proofs.Views.{Whole, aside_at, claim_at, changed, set_stage, out_aside, release_view, ended_view}
use Rattle.rules.proofs.Invariant.{Kept}
use Rattle.rules.proofs.Frames.{Own, absent_present, own_ended}
use Rattle.rules.proofs.Quiet.{changed_here, changed_elsewhere, quiet_kept}

-- the same state but for the answers
abbrev pub regifted : {K V : Type 0} → (ℕ → V) → Whole K V → Whole K V
regifted gifts w = record { state = w.state; key = w.key; value = w.value; next = w.next; mark = w.mark; head = w.head; stage = w.stage; want = w.want; gift = gifts }

-- session s of v stops: states are the states after it, marks the marks and gifts the answers
module _ {K V : Type 0} {order rank : K → K → Ordering} {bucket : K → ℕ} {plain : Plain K V} {n : ℕ} {v : Whole K V}
    (k : Kept order rank bucket plain n v) (s : ℕ) (states : ℕ → ItemState) (marks : ℕ → Bool) (gifts : ℕ → V)
    (out : (x : ℕ) → aside_at (v.stage s) ≡ Some x → states x ≡ Out) (in_place : (p : ℕ) → (aside_at (v.stage s) ≡ Some p → ⊥) → states p ≡ v.state p)
    (off : (p : ℕ) → claim_at (v.stage s) ≡ Some p → marks p ≡ false) (as-marked : (p : ℕ) → (claim_at (v.stage s) ≡ Some p → ⊥) → marks p ≡ v.mark p)
    (others : (t : ℕ) → (t ≡ s → ⊥) → gifts t ≡ v.gift t) where
  -- what is not out after it is not what the session had set aside
  not_aside : (p : ℕ) → (states p ≡ Out → ⊥) → aside_at (v.stage s) ≡ Some p → ⊥
  not_aside p used i = used (out p i)

  -- so it is as it was
  as_was : (p : ℕ) → (states p ≡ Out → ⊥) → states p ≡ v.state p
  as_was p used = in_place p (not_aside p used)

  -- an item is in ring after it if it was before
  same_ring : (p : ℕ) → is_in_ring (states p) ≡ is_in_ring (v.state p)
  same_ring p =
      grind arith

  -- it keeps the invariant, if the session's note is right
  stop_with :
      (plain' : Plain K V) (stage : Stage) → aside_at stage ≡ None → claim_at stage ≡ None →
      ((t : ℕ) → (t ≡ s → ⊥) → plain'.notes t ≡ plain.notes t) → plain'.entries ≡ plain.entries →
      let w : Whole K V = record { state = states; key = v.key; value = v.value; next = v.next; mark = marks; head = v.head; stage = changed s stage v.stage; want = v.want; gift = gifts } in
      Own order bucket plain' n w s → Kept order rank bucket plain' n w
  stop_with plain' stage aside claim notes entries own =
      let here = changed_here s stage v.stage in
      quiet_kept {plain = plain} {plain' = plain'} s k
      (record {
        stages = grind arith;
        wants = λ t differs. refl;
        gifts = others;
        cursors = λ t c differs i. grind arith;
        asides = λ t x differs i. grind arith;
        claims = λ t p differs i. grind arith;
      })
      notes own
      (record {
        aside_new = λ t x differs i j. grind arith;
        aside_left = grind arith;
        claim_new = λ t p differs i j. grind arith;
        claim_left = λ p i. grind arith;
      })
      (record { same = same_ring; keys = λ p i. refl; nexts = λ p i. refl; heads = λ b. refl })
      (λ p i. refl) (λ p o used. absurd (used (as_was p used ∙ o))) entries

-- a function with another value at the place that an option names, if it names one
module _ {X : Type 0} (x : X) (f : ℕ → X) where
  abbrev pub changed_at : Option ℕ → ℕ → X
  changed_at None = f
  changed_at (Some i) = changed i x f

  -- the value there is the new one
  pub changed_there : (o o' : Option ℕ) → o ≡ o' → (p : ℕ) → o ≡ Some p → changed_at o' p ≡ x
  changed_there o None e p i = absurd (absent_present e i)
  changed_there o (Some j) e p i = let same : p ≡ j = cc in ap (changed j x f) same ∙ changed_here j x f

  -- the value elsewhere is as it was
  pub changed_not_there : (o o' : Option ℕ) → o ≡ o' → (p : ℕ) → (o ≡ Some p → ⊥) → changed_at o' p ≡ f p
  changed_not_there o None e p i = refl
  changed_not_there o (Some j) e p i = changed_elsewhere j x f p (λ same. i (e ∙ ap Some (sym same)))

module _ {K V : Type 0} {order rank : K → K → Ordering} {bucket : K → ℕ} {plain : Plain K V} {n : ℕ} {v : Whole K V}
    (k : Kept order rank bucket plain n v) (s : ℕ) (gifts : ℕ → V) (others : (t : ℕ) → (t ≡ s → ⊥) → gifts t ≡ v.gift t)
    (plain' : Plain K V) (stage : Stage) (no-aside : aside_at stage ≡ None) (no-claim : claim_at stage ≡ None)
    (notes : (t : ℕ) → (t ≡ s → ⊥) → plain'.notes t ≡ plain.notes t) (entries : plain'.entries ≡ plain.entries) where
  -- the same with states and marks written out
  stop_at :
      (aside claim : Option ℕ) → aside_at (v.stage s) ≡ aside → claim_at (v.stage s) ≡ claim →
      let w : Whole K V = record { state = changed_at Out v.state aside; key = v.key; value = v.value; next = v.next; mark = changed_at false v.mark claim; head = v.head; stage = changed s stage v.stage; want = v.want; gift = gifts } in
      Own order bucket plain' n w s → Kept order rank bucket plain' n w
  stop_at aside claim a c own =
      stop_with k s (changed_at Out v.state aside) (changed_at false v.mark claim) gifts
      (changed_there Out v.state (aside_at (v.stage s)) aside a) (changed_not_there Out v.state (aside_at (v.stage s)) aside a)
      (changed_there false v.mark (claim_at (v.stage s)) claim c) (changed_not_there false v.mark (claim_at (v.stage s)) claim c)
      others plain' stage no-aside no-claim notes entries own

  -- a session stops, with what it has set aside and claimed, if anything
  pub stop_kept :
      (aside claim : Option ℕ) → aside_at (v.stage s) ≡ aside → claim_at (v.stage s) ≡ claim →
      Own order bucket plain' n (regifted gifts (set_stage s stage (out_aside aside (release_view claim v)))) s →
      Kept order rank bucket plain' n (regifted gifts (set_stage s stage (out_aside aside (release_view claim v))))
  stop_kept None None a c own = stop_at None None a c own
  stop_kept None (Some p) a c own = stop_at None (Some p) a c own
  stop_kept (Some x) None a c own = stop_at (Some x) None a c own
  stop_kept (Some x) (Some p) a c own = stop_at (Some x) (Some p) a c own

module _ {K V : Type 0} {order rank : K → K → Ordering} {bucket : K → ℕ} {plain : Plain K V} {n : ℕ} {v : Whole K V} (s : ℕ) (j : Job) where
  -- a session with no claim ends, with an answer or none; what it has set aside goes out
  ends_with :
      (aside : Option ℕ) (a : Option V) → Kept order rank bucket plain n v → aside_at (v.stage s) ≡ aside → claim_at (v.stage s) ≡ None →
      Kept order rank bucket (noting s (answer a) plain) n (ended_view s j a (out_aside aside v))
  ends_with aside None k h c =
      let o = operation_of j in
      let note = changed_here s (answer None) plain.notes in
      let here = changed_here s (Ended o false) v.stage in
      let stop = stop_kept k s v.gift (λ t differs. refl) (noting s (answer None) plain) (Ended o false) refl refl (changed_elsewhere s (answer None) plain.notes) refl in
      (elim aside as (λ x. aside_at (v.stage s) ≡ x → Kept order rank bucket (noting s (answer None) plain) n (ended_view s j None (out_aside x v))) [
        | None ↦ λ i. grind arith
        | Some x ↦ λ i. stop (Some x) None i c (own_ended o false here note)
      ]) h
  ends_with aside (Some g) k h c =
      let o = operation_of j in
      let note = changed_here s (answer (Some g)) plain.notes ∙ ap (λ y. answer (Some y)) (sym (changed_here s g v.gift)) in
      let here = changed_here s (Ended o true) v.stage in
      let stop = stop_kept k s (changed s g v.gift) (changed_elsewhere s g v.gift) (noting s (answer (Some g)) plain) (Ended o true) refl refl
      (changed_elsewhere s (answer (Some g)) plain.notes) refl in
      (elim aside as (λ x. aside_at (v.stage s) ≡ x → Kept order rank bucket (noting s (answer (Some g)) plain) n (ended_view s j (Some g) (out_aside x v))) [
        | None ↦ λ i. grind arith
        | Some x ↦ λ i. stop (Some x) None i c (own_ended o true here note)
      ]) h

  -- so does a session that seeks
  pub seeker_ends :
      (cursor : Option ℕ) (a : Option V) → Kept order rank bucket plain n v → v.stage s ≡ UnderWay (Seeking j cursor) →
      Kept order rank bucket (noting s (answer a) plain) n (ended_view s j a (out_aside (aside_of j) v))
  seeker_ends cursor a k e = ends_with (aside_of j) a k (ap aside_at e) (ap claim_at e)
