-- A session begins, is collected, or is abandoned.
use Rattle.std.proofs.Common.{◌≡◌, ℕ, ◌<◌, Bool, Some, None, Option, sym, refl, ap, ◌∙◌, inl, inr, arith}
use Rattle.std.specs.declared.cmp.Ordering.{Ordering}
use Rattle.calls.specs.declared.call.Task.{Task}
use Rattle.calls.specs.declared.operation.Operation.{Operation}
use Rattle.tables.specs.declared.item.ItemState.TheVariants.{Out, SetAside, InRing}
use Rattle.tables.specs.declared.session.Job.{Job}
use Rattle.tables.specs.declared.session.Stage.TheVariants.{Idle, UnderWay, Ended}
use Rattle.tables.specs.declared.session.Work.{Work}
use Rattle.tables.specs.declared.session.Work.TheVariants.{Seeking}
use Rattle.tables.specs.Sessions.{aside_of, claim_of, job_of, operation_of}
use Rattle.rings.proofs.Unlinking.{holds_cases}
use Rattle.rules.specs.Plain.{Plain, nothing, asked, noting}
use Rattle.rules.proofs.Views.{Whole, cursor_at, aside_at, claim_at, changed, set_stage, set_request, out_aside, release_view, aside_view, begin_view, abandon_view}
use Rattle.rules.proofs.Invariant.{Kept}
use Rattle.rules.proofs.Frames.{Own, absent_present, own_idle, own_working}
use Rattle.rules.proofs.Quiet.{changed_here, changed_elsewhere, quiet_kept}
use Rattle.rules.proofs.Stopping.{changed_at, changed_there, changed_not_there, regifted, stop_kept}

-- what is asked of a place that a session is to set aside: it lies in the table, is out, and no session stands on it
pub record Free {K V : Type 0} (n : ℕ) (w : Whole K V) (x : ℕ) : Type 0 where
  pub within : x < n
  pub out : w.state x ≡ Out
  pub untrodden : (s : ℕ) → cursor_at (w.stage s) ≡ Some x → ⊥

-- session s of v, which is idle, begins: at its aside, if it has one, the item is set aside with its key and value
module _ {K V : Type 0} {order rank : K → K → Ordering} {bucket : K → ℕ} {plain : Plain K V} {n : ℕ} {v : Whole K V}
    (k : Kept order rank bucket plain n v) (s : ℕ) (idle : v.stage s ≡ Idle) (t : Task K V) (j : Job) (op : operation_of j ≡ t.operation)
    (aside : Option ℕ) (mine : aside_of j ≡ aside) (free : (x : ℕ) → aside ≡ Some x → Free n v x)
    (nexts : ℕ → ℕ) (ahead : (p : ℕ) → (aside ≡ Some p → ⊥) → nexts p ≡ v.next p) where
  -- what is in use is not its aside
  not_free : (p : ℕ) → (v.state p ≡ Out → ⊥) → aside ≡ Some p → ⊥
  not_free p used i = used (free p i).out

  -- what is in ring is not its aside
  ring_not_free : (p : ℕ) → v.state p ≡ InRing → aside ≡ Some p → ⊥
  ring_not_free p r = not_free p (λ o. cc)

  begin_with :
      Kept order rank bucket (noting s (asked t) plain) n
      (record {
        state = changed_at SetAside v.state aside;
        key = changed_at t.key v.key aside;
        value = changed_at t.value v.value aside;
        next = nexts;
        mark = v.mark;
        head = v.head;
        stage = changed s (UnderWay (Seeking j None)) v.stage;
        want = changed s t.key v.want;
        gift = changed s t.value v.gift;
      })
  begin_with =
      let here = changed_here s (UnderWay (Seeking j None)) v.stage in
      let want = changed_here s t.key v.want in
      let gift = changed_here s t.value v.gift in
      let state-at = changed_there SetAside v.state aside aside refl in
      let state-rest = changed_not_there SetAside v.state aside aside refl in
      let key-rest = changed_not_there t.key v.key aside aside refl in
      let value-rest = changed_not_there t.value v.value aside aside refl in
      quiet_kept {plain = plain} {plain' = noting s (asked t) plain} s k
      (record {
        stages = grind arith;
        wants = grind arith;
        gifts = grind arith;
        cursors = grind arith;
        asides = λ u x differs i.
            let set = k.aside_state u x i in
            let other = not_free x (λ o. cc) in
            record { state = grind arith; key = key-rest x other; value = grind arith; next = ahead x other };
        claims = grind arith;
      })
      (changed_elsewhere s (asked t) plain.notes)
      (own_working (Seeking j None) here
      (changed_here s (asked t) plain.notes ∙ (λ i. asked (record { operation = sym op i; key = sym want i; value = sym gift i })))
      (record {
        cursor_within = λ c i. absurd (absent_present refl i);
        cursor_state = λ c i. absurd (absent_present refl i);
        cursor_bucket = λ c i. absurd (absent_present refl i);
        aside_state = λ x i. grind arith;
        aside_key = λ x i. grind arith;
        aside_value = λ x i. grind arith;
        claim_state = λ p i. absurd (absent_present refl i);
        claim_mark = λ p i. absurd (absent_present refl i);
        claim_key = λ p i. absurd (absent_present refl i);
        claim_next = λ p x i a. absurd (absent_present refl i);
      }))
      (record {
        aside_new = λ u x differs i a.
            let set = k.aside_state u x a in
            let out = (free x (sym mine ∙ sym (ap aside_at here) ∙ i)).out in
            let z : ◌≡◌ {A = ℕ} 0 1 = cc in
            omega arith;
        aside_left = λ x a. grind arith;
        claim_new = λ u p differs i a. grind arith;
        claim_left = λ p i. grind arith;
      })
      (record {
        same = λ p. grind arith;
        keys = λ p i. grind arith;
        nexts = λ p i. grind arith;
        heads = λ b. refl;
      })
      (λ p i. value-rest p (ring_not_free p i))
      (λ p o used. elim (holds_cases aside p) [ inl i ↦ (free p i).within | inr other ↦ absurd (used (state-rest p other ∙ o)) ])
      refl

-- an idle session begins a task's job
pub begin_kept :
    {K V : Type 0} {order rank : K → K → Ordering} {bucket : K → ℕ} {plain : Plain K V} {n : ℕ} {w : Whole K V} (s : ℕ) (t : Task K V) (j : Job) →
    Kept order rank bucket plain n w → w.stage s ≡ Idle → operation_of j ≡ t.operation → ((x : ℕ) → aside_of j ≡ Some x → Free n w x) →
    Kept order rank bucket (noting s (asked t) plain) n (begin_view s t j w)
begin_kept {order = order} {rank = rank} {bucket = bucket} {plain = plain} {n = n} {w = w} s t j k idle op free = by (aside_of j) refl free
  where
    by : (aside : Option ℕ) → aside_of j ≡ aside → ((x : ℕ) → aside ≡ Some x → Free n w x) →
        Kept order rank bucket (noting s (asked t) plain) n (aside_view aside t (set_request s t.key t.value (set_stage s (UnderWay (Seeking j None)) w)))
    by None mine f = begin_with k s idle t j op None mine f w.next (λ p other. refl)
    by (Some x) mine f = begin_with k s idle t j op (Some x) mine f (changed x x w.next) (λ p other. changed_elsewhere x x w.next p (λ same. other (ap Some (sym same))))

module _ {K V : Type 0} {order rank : K → K → Ordering} {bucket : K → ℕ} {plain : Plain K V} {n : ℕ} {w : Whole K V} (s : ℕ) (k : Kept order rank bucket plain n w) where
  -- a session becomes idle, with what it has set aside and claimed, if anything
  idles :
      (aside claim : Option ℕ) → aside_at (w.stage s) ≡ aside → claim_at (w.stage s) ≡ claim →
      let u : Whole K V = regifted w.gift (set_stage s Idle (out_aside aside (release_view claim w))) in
      Own order bucket (noting s nothing plain) n u s → Kept order rank bucket (noting s nothing plain) n u
  idles = stop_kept k s w.gift (λ t differs. refl) (noting s nothing plain) Idle refl refl (changed_elsewhere s nothing plain.notes) refl

  -- the same of the state as abandon leaves it
  idles_with :
      (aside claim : Option ℕ) → aside_at (w.stage s) ≡ aside → claim_at (w.stage s) ≡ claim →
      Kept order rank bucket (noting s nothing plain) n (set_stage s Idle (out_aside aside (release_view claim w)))
  idles_with None None a c = idles None None a c (own_idle (changed_here s Idle w.stage) (changed_here s nothing plain.notes))
  idles_with None (Some p) a c = idles None (Some p) a c (own_idle (changed_here s Idle w.stage) (changed_here s nothing plain.notes))
  idles_with (Some x) None a c = idles (Some x) None a c (own_idle (changed_here s Idle w.stage) (changed_here s nothing plain.notes))
  idles_with (Some x) (Some p) a c = idles (Some x) (Some p) a c (own_idle (changed_here s Idle w.stage) (changed_here s nothing plain.notes))

  -- a session that has ended is collected, or abandoned
  pub collect_kept : (o : Operation) (present : Bool) → w.stage s ≡ Ended o present → Kept order rank bucket (noting s nothing plain) n (set_stage s Idle w)
  collect_kept o present e = idles_with None None (ap aside_at e) (ap claim_at e)

  -- a session under way is abandoned
  pub abandon_kept : (work : Work) → w.stage s ≡ UnderWay work → Kept order rank bucket (noting s nothing plain) n (abandon_view s work w)
  abandon_kept work e = idles_with (aside_of (job_of work)) (claim_of work) (ap aside_at e) (ap claim_at e)
