-- The run law: what holds of every state that satisfies the invariant holds after every run.
use Rattle.std.proofs.Common.{◌≡◌, ℕ, List, [], ◌∷◌, Ok, Err, Option, Result, sym, refl, ap, ◌∙◌, subst}
use Rattle.std.specs.declared.cmp.Ordering.{Ordering}
use Rattle.calls.specs.declared.call.Action.{Action}
use Rattle.calls.specs.declared.call.Action.TheVariants.{Begin, Turn, Collect, Abandon}
use Rattle.calls.specs.declared.call.Call.{Call}
use Rattle.calls.specs.declared.fault.IndexFault.{IndexFault}
use Rattle.calls.specs.declared.reply.Reply.{Reply}
use Rattle.calls.specs.declared.reply.Reply.TheVariants.{Collected}
use Rattle.keys.specs.Hashes.{Hash}
use Rattle.keys.specs.Ranks.{LawfulKind}
use Rattle.rules.specs.States.{State}
use Rattle.rules.specs.Making.{make}
use Rattle.rules.specs.Collect.{collect}
use Rattle.rules.specs.Plain.{Plain}
use Rattle.rules.specs.Runs.{Event, Run, new, more, plain_after, recorded}
use Rattle.rules.specs.RunLaw.{Collects, Answers, FullAt, Full, RunLaw, GoesOn, Starts, Replays}
use Rattle.rules.specs.Steps.{step, step_by, played, replied}
use Rattle.rules.proofs.Invariant.{Inv}
use Rattle.rules.proofs.AnswersFromInvariant.{answers_noted, noted_answers}
use Rattle.rules.proofs.FullFromInvariant.{full_when_refused}
use Rattle.rules.proofs.MakingKept.{making_kept}
use Rattle.rules.proofs.PlaceFaults.{refused_begins}
use Rattle.rules.proofs.RingsFromInvariant.{ring_of_bucket}
use Rattle.rules.proofs.ShapeFacts.{first_item}
use Rattle.rules.proofs.Stepping.{step_keeps, step_places}

-- a reply that collected a value
collected_is : {V : Type 0} (r : Result (Option V) IndexFault) (v : Option V) → replied Collected r ≡ Ok (Collected v) → r ≡ Ok v
collected_is (Ok u) v h = cc
collected_is (Err f) v h = absurd cc

-- what one step from a state that satisfies the invariant answers
module _ {K V : Type 0} (order : K → K → Ordering) (digest : K → Hash) (plain : Plain K V) (st : State K V) (inv : Inv order digest plain st) where
  -- (a) a collect answers what is noted
  step_collects : (s : ℕ) (a : Action K V) (r : Result (Reply V) IndexFault) → (step_by order digest st s a).0 ≡ r → Collects order digest plain a s r
  step_collects s (Begin t) r h = tt
  step_collects s Turn r h = tt
  step_collects s Collect r h = λ v e. answers_noted order digest plain st inv s v (collected_is (collect st s).0 v (h ∙ e))
  step_collects s Abandon r h = tt

  -- (c) a call refused for want of a place finds the table full
  step_full : (s : ℕ) (a : Action K V) (r : Result (Reply V) IndexFault) → (step_by order digest st s a).0 ≡ r → FullAt order digest st.core.places plain r
  step_full s a r h = λ e. let b = refused_begins order digest st s a (h ∙ e) in full_when_refused order digest plain st inv s b.0 b.1

module _ {K V : Type 0} (order : K → K → Ordering) (digest : K → Hash) (laws : LawfulKind order digest) where
  -- the invariant holds after every run
  pub run_invariant : {es : List (Event K V)} {st : State K V} → Run order digest es st → Inv order digest (plain_after order es) st
  run_invariant {st = st} (new old k made) = making_kept order digest k old st made
  run_invariant {st = after} (more {es} {st} e run stepped) = step_keeps order digest laws (plain_after order es) st after e.call e.reply (run_invariant run) stepped

  -- (a) at every event
  run_answered : {es : List (Event K V)} {st : State K V} → Run order digest es st → Answers order digest es
  run_answered (new old k made) = tt
  run_answered (more {es} {st} e run stepped) =
      (step_collects order digest (plain_after order es) st (run_invariant run) e.call.session e.call.action e.reply (ap (λ o. o.0) stepped), run_answered run)

  -- (c) at every event
  run_full : {es : List (Event K V)} {st : State K V} → Run order digest es st → Full order digest st.core.places es
  run_full (new old k made) = tt
  run_full {st = after} (more {es} {st} e run stepped) =
      let same = step_places order digest st after e.call e.reply stepped in (
        subst (λ n. FullAt order digest n (plain_after order es) e.reply) (sym same)
            (step_full order digest (plain_after order es) st (run_invariant run) e.call.session e.call.action e.reply (ap (λ o. o.0) stepped)),
        subst (λ n. Full order digest n es) (sym same) (run_full run),
      )

  -- the run law, for every lawful kind of keys
  pub run_law : RunLaw V order digest
  run_law es st run =
      let inv = run_invariant run in
      let plain = plain_after order es in
      let it = (first_item st inv.shape).0 in
      record {
        answered = run_answered run;
        answers = answers_noted order digest plain st inv;
        owed = noted_answers order digest plain st inv;
        rings = ring_of_bucket order digest laws plain st inv;
        counted = (inv.kept it.key it.value).apart;
        full = run_full run;
        full_now = full_when_refused order digest plain st inv;
      }

-- every step goes on with a run
pub step_law : {K V : Type 0} (order : K → K → Ordering) (digest : K → Hash) → LawfulKind order digest → (st after : State K V) (e : Event K V) →
    step order digest st e.call ≡ (e.reply, after) → GoesOn order digest st e after
step_law order digest laws st after e stepped es run =
    let longer : Run order digest (e ∷ es) after = more e run stepped in
    (longer, run_law order digest laws (e ∷ es) after longer)

-- an accepted making starts one
pub make_law : {K V : Type 0} (order : K → K → Ordering) (digest : K → Hash) → LawfulKind order digest → (k : ℕ) (old st : State K V) (r : Result (Unit {0}) IndexFault) →
    (r, st) ≡ make k old → r ≡ Ok tt → Starts order digest st
make_law order digest laws k old st r made accepted =
    let empty : Run order digest [] st = new old k (sym made ∙ ap (λ x. (x, st)) accepted) in
    (empty, run_law order digest laws [] st empty)

-- a list of calls goes on with a run
pub recorded_run : {K V : Type 0} (order : K → K → Ordering) (digest : K → Hash) (st : State K V) (cs : List (Call K V)) (es : List (Event K V)) →
    Run order digest es st → Run order digest (recorded order digest st cs es) (played order digest st cs).1
recorded_run order digest st [] es run = run
recorded_run order digest st (c ∷ cs) es run =
    let done = step order digest st c in
    recorded_run order digest done.1 cs (record { call = c; reply = done.0 } ∷ es) (more (record { call = c; reply = done.0 }) run refl)

-- and from a making on it is sound
pub replay_law : {K V : Type 0} (order : K → K → Ordering) (digest : K → Hash) → LawfulKind order digest → (k : ℕ) (old st after : State K V) (cs : List (Call K V)) →
    make k old ≡ (Ok tt, st) → (played order digest st cs).1 ≡ after → Replays order digest st cs after
replay_law order digest laws k old st after cs made reached =
    let run : Run order digest (recorded order digest st cs []) after =
    subst (λ x. Run order digest (recorded order digest st cs []) x) reached (recorded_run order digest st cs [] (new old k made)) in
    (run, run_law order digest laws (recorded order digest st cs []) after run)
