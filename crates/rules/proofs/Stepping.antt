-- Every call keeps the invariant, refused or not, and the plain table that is fed the call keeps step with the index.
use Rattle.std.proofs.Common.{◌≡◌, ℕ, ◌^◌, ◌<◌, Bool, not, ltb, Some, None, Ok, Err, Option, Result, sym, refl, ap, ◌∙◌, subst, arith}
use Rattle.std.specs.List.{slice_get}
use Rattle.std.specs.Option.{ok_or}
use Rattle.std.specs.declared.cmp.Ordering.{Ordering}
use Rattle.calls.specs.declared.call.Action.{Action}
use Rattle.calls.specs.declared.call.Action.TheVariants.{Begin, Turn, Collect, Abandon}
use Rattle.calls.specs.declared.call.Call.{Call}
use Rattle.calls.specs.declared.call.Task.{Task}
use Rattle.calls.specs.declared.fault.IndexFault.{IndexFault}
use Rattle.calls.specs.declared.fault.IndexFault.TheVariants.{NoSession}
use Rattle.calls.specs.declared.operation.Operation.{Operation}
use Rattle.calls.specs.declared.operation.Operation.TheVariants as operation
use Rattle.calls.specs.declared.reply.Reply.{Reply}
use Rattle.calls.specs.declared.reply.Reply.TheVariants.{Begun, Turned, Collected, Abandoned}
use Rattle.keys.specs.Hashes.{Hash}
use Rattle.keys.specs.Ranks.{LawfulKind, by_rank, bucket_of}
use Rattle.keys.proofs.RankOrder.{rank_laws}
use Rattle.tables.specs.declared.moves.Move.{Move}
use Rattle.tables.specs.declared.moves.Move.TheVariants.{Step, Leave, GiveUp, Wait, ClaimToReplace, ClaimToRemove, Absent, LinkAlone, Link, Present, SwingIn, SwingOut}
use Rattle.tables.specs.declared.request.Request.{Request}
use Rattle.tables.specs.declared.session.Job.{Job}
use Rattle.tables.specs.declared.session.Session.{Session}
use Rattle.tables.specs.declared.session.Stage.{Stage}
use Rattle.tables.specs.declared.session.Stage.TheVariants.{Idle, UnderWay, Ended}
use Rattle.tables.specs.declared.session.Work.{Work}
use Rattle.tables.specs.Sessions.{aside_of, job_of, operation_of}
use Rattle.rules.specs.Abandon.{abandon, abandon_stage, abandon_seat, abandoned}
use Rattle.rules.specs.Act.{act}
use Rattle.rules.specs.Begin.{job_for, begin, begin_job, begin_stage, begin_seat, begun}
use Rattle.rules.specs.Collect.{collect, collect_stage, collect_seat, restaged}
use Rattle.rules.specs.Decide.{decide}
use Rattle.rules.specs.Free.{first_free}
use Rattle.rules.specs.Plain.{Plain, nothing, asked, noting, feed, feed_by, feed_turn, feed_note, heard, heard_turn, do_noted, do_task}
use Rattle.rules.specs.States.{State, seat}
use Rattle.rules.specs.Steps.{step, step_by, replied}
use Rattle.rules.specs.Turn.{turn, turn_move, turn_request, turn_stage, turn_seat}
use Rattle.rules.proofs.ActingViews.{act_seen, begun_seen, restaged_seen, abandoned_seen}
use Rattle.rules.proofs.Beginning.{begin_kept, collect_kept, abandon_kept}
use Rattle.rules.proofs.Claiming.{claim_to_replace_kept, claim_to_remove_kept}
use Rattle.rules.proofs.Deciding.{decided_grounds}
use Rattle.rules.proofs.Ending.{absent_kept, present_kept}
use Rattle.rules.proofs.FreePlaces.{first_free_is_free}
use Rattle.rules.proofs.Grounds.{Grounds}
use Rattle.rules.proofs.Invariant.{Shape, Kept, Inv}
use Rattle.rules.proofs.KindLaws.{Kind, kind_of}
use Rattle.rules.proofs.Linking.{link_alone_kept, link_kept}
use Rattle.rules.proofs.Moving.{step_kept, leave_kept, give_up_kept, wait_kept}
use Rattle.rules.proofs.Reading.{nth_bound}
use Rattle.rules.proofs.SameViews.{kept_same}
use Rattle.rules.proofs.ShapeFacts.{seat_of}
use Rattle.rules.proofs.ShapeKept.{Within, act_shape, begun_shape, restaged_shape, abandoned_shape}
use Rattle.rules.proofs.Sizes.{Sized, act_sized, begun_sized, step_sized}
use Rattle.rules.proofs.Swinging.{swing_in_kept, swing_out_kept}
use Rattle.rules.proofs.Views.{Whole, whole, want_in, stage_in, act_view}
use Rattle.rules.proofs.Writable.{grounds_write, aside_within, claim_within}

-- a turn that has decided, by place
module _ {K V : Type 0} {order rank : K → K → Ordering} {bucket : K → ℕ} (kind : Kind order rank bucket) {plain : Plain K V} {n : ℕ} {w : Whole K V} {s : ℕ} {work : Work}
    (kept : Kept order rank bucket plain n w) (under_way : w.stage s ≡ UnderWay work) (fifth : Bool) (st : State K V) (finds : ℕ) (r : Request K V) (b : ℕ) where
  -- a move that ends does the task that is noted
  ends_kept :
      (v : Whole K V) → Kept order rank bucket (do_task order s (record { operation = operation_of (job_of work); key = w.want s; value = w.gift s }) plain) n v →
      Kept order rank bucket (do_noted order s (plain.notes s) plain) n v
  ends_kept v after = subst (λ note. Kept order rank bucket (do_noted order s note plain) n v) (sym (kept.under_way s work under_way)) after

  -- each move keeps the invariant, with the plain table that was fed the turn
  move_kept :
      (m : Move V) → Grounds order rank bucket n w s work m →
      Kept order rank bucket (feed_turn order s (heard_turn (act st s (job_of work) finds r b m).0) plain) n (act_view s (job_of work) fifth (bucket (w.want s)) m w)
  move_kept (Step p) g = step_kept kind kept under_way fifth p g
  move_kept Leave g = leave_kept kind kept under_way fifth g
  move_kept (GiveUp p) g = give_up_kept kind kept under_way fifth p g
  move_kept Wait g = wait_kept kind kept under_way fifth g
  move_kept (ClaimToReplace x pair ahead) g = claim_to_replace_kept kind kept under_way fifth x pair ahead g
  move_kept (ClaimToRemove pair) g = claim_to_remove_kept kind kept under_way fifth pair g
  move_kept Absent g = ends_kept _ (absent_kept kind kept under_way fifth g)
  move_kept (LinkAlone x) g = ends_kept _ (link_alone_kept kind w s work kept under_way fifth x g)
  move_kept (Link x pair) g = ends_kept _ (link_kept kind w s work kept under_way fifth x pair g)
  move_kept (Present p v) g = ends_kept _ (present_kept kind kept under_way fifth p v g)
  move_kept (SwingIn x pair head v) g = ends_kept _ (swing_in_kept kind w s work kept under_way fifth x pair head v g)
  move_kept (SwingOut pair ahead head v) g = ends_kept _ (swing_out_kept kind w s work kept under_way fifth pair ahead head v g)

-- a job is for the operation asked for, and what it sets aside is the free place that was found
job_for_does : (free : Option ℕ) (o : Operation) (j : Job) → job_for free o ≡ Ok j → (operation_of j ≡ o) × ((x : ℕ) → aside_of j ≡ Some x → free ≡ Some x)
job_for_does free operation.Find j is = (grind arith, λ x h. absurd (grind arith))
job_for_does (Some p) operation.Insert j is = (grind arith, λ x h. grind arith)
job_for_does None operation.Insert j is = absurd (grind arith)
job_for_does free operation.Write j is = (grind arith, λ x h. absurd (grind arith))
job_for_does (Some p) operation.Replace j is = (grind arith, λ x h. grind arith)
job_for_does None operation.Replace j is = absurd (grind arith)
job_for_does free operation.Remove j is = (grind arith, λ x h. absurd (grind arith))
job_for_does free operation.Point j is = (grind arith, λ x h. absurd (grind arith))

module _ {K V : Type 0} (order : K → K → Ordering) (digest : K → Hash) (laws : LawfulKind order digest) (plain : Plain K V) (st : State K V) (inv : Inv order digest plain st) where
  -- the order by rank in the index
  abbrev rank : K → K → Ordering
  rank = by_rank order digest st.core.bits

  -- the buckets of the index
  abbrev bucket : K → ℕ
  bucket = bucket_of order digest st.core.bits

  -- the invariant of a state with as many places and head bits
  inv_from : (after-plain : Plain K V) (after : State K V) → Shape after → Sized st after → ((d : K) (e : V) → Kept order rank bucket after-plain st.core.places (whole d e after)) → Inv order digest after-plain after
  inv_from after-plain after shape sized kept = record {
    shape = shape;
    kept = λ d e.
        subst (λ n. Kept order (by_rank order digest after.core.bits) (bucket_of order digest after.core.bits) after-plain n (whole d e after)) (sym sized.0)
        (subst (λ k. Kept order (by_rank order digest k) (bucket_of order digest k) after-plain st.core.places (whole d e after)) (sym sized.1) (kept d e));
  }

  -- a session that is seated is one of the sixteen
  seated_session : (s : ℕ) (session : Session) → seat st s ≡ Ok session → slice_get st.core.sessions s ≡ Some session
  seated_session s session is = go (slice_get st.core.sessions s) (sym (seat_of st inv.shape s) ∙ is)
    where
      go : (o : Option Session) → ok_or o NoSession ≡ Ok session → o ≡ Some session
      go None e = absurd (grind arith)
      go (Some x) e = grind arith

  -- so its number is below 16
  session_few : (s : ℕ) (session : Session) → slice_get st.core.sessions s ≡ Some session → s < 16
  session_few s session at = let b = nth_bound st.core.sessions s session at in let l = inv.shape.sessions_long in omega arith

  -- a turn: session s is under way with this work
  module _ (s : ℕ) (session : Session) (seated : slice_get st.core.sessions s ≡ Some session) (work : Work) (at-work : session.stage ≡ UnderWay work) (r : Request K V) (requested : slice_get st.requests s ≡ Some r) where
    -- the stage of the session, by place
    stage_is : (d : K) (e : V) → (whole d e st).stage s ≡ UnderWay work
    stage_is d e = ap stage_in seated ∙ at-work

    -- the key's bucket is one of the index
    bucket_within : bucket r.key < 2 ^ st.core.bits
    bucket_within = (rank_laws laws st.core.bits).bucket_small r.key (let f = inv.shape.few_bits in omega arith)

    -- a turn that has decided on a move keeps the invariant
    moved_kept :
        (m : Move V) → decide order digest st r.key work ≡ Ok m →
        Inv order digest (feed_turn order s (heard_turn (act st s (job_of work) session.finds r (bucket r.key) m).0) plain) (act st s (job_of work) session.finds r (bucket r.key) m).1
    moved_kept m is =
        inv_from _ _ (act_shape st inv.shape s (job_of work) session.finds r (bucket r.key) m) (act_sized st s (job_of work) session.finds r (bucket r.key) m)
        (λ d e.
        let kept = inv.kept d e in
        let fifth = not (ltb session.finds 4) in
        let g = decided_grounds order digest laws plain st inv.shape d e kept s r requested work m (stage_is d e) is in
        let here = act_seen d e st inv.shape s (session_few s session seated) (job_of work) session.finds fifth refl r requested (bucket r.key) bucket_within m (grounds_write kept (stage_is d e) m g) in
        let after = move_kept (kind_of order digest laws st.core.bits) kept (stage_is d e) fifth st session.finds r (bucket r.key) m g in
        kept_same order rank bucket _ st.core.places here
        (subst (λ k. Kept order rank bucket (feed_turn order s (heard_turn (act st s (job_of work) session.finds r (bucket r.key) m).0) plain) st.core.places (act_view s (job_of work) fifth (bucket k) m (whole d e st))) (ap (want_in d) requested) after))

  -- a turn keeps the invariant
  turn_kept : (s : ℕ) → Inv order digest (feed_turn order s (heard {V = V} (replied Turned (turn order digest st s).0)) plain) (turn order digest st s).1
  turn_kept s = by_seat (seat st s) refl
    where
      by_move :
          (session : Session) → slice_get st.core.sessions s ≡ Some session → (work : Work) → session.stage ≡ UnderWay work → (r : Request K V) → slice_get st.requests s ≡ Some r →
          (m : Result (Move V) IndexFault) → decide order digest st r.key work ≡ m →
          Inv order digest (feed_turn order s (heard {V = V} (replied Turned (turn_move order digest st s work session.finds r m).0)) plain) (turn_move order digest st s work session.finds r m).1
      by_move session seated work at-work r requested (Ok m) is = moved_kept s session seated work at-work r requested m is
      by_move session seated work at-work r requested (Err f) is = inv

      by_request :
          (session : Session) → slice_get st.core.sessions s ≡ Some session → (work : Work) → session.stage ≡ UnderWay work → (o : Option (Request K V)) → slice_get st.requests s ≡ o →
          Inv order digest (feed_turn order s (heard {V = V} (replied Turned (turn_request order digest st s work session.finds o).0)) plain) (turn_request order digest st s work session.finds o).1
      by_request session seated work at-work (Some r) requested = by_move session seated work at-work r requested (decide order digest st r.key work) refl
      by_request session seated work at-work None requested = inv

      by_stage :
          (session : Session) → slice_get st.core.sessions s ≡ Some session → (stage : Stage) → session.stage ≡ stage →
          Inv order digest (feed_turn order s (heard {V = V} (replied Turned (turn_stage order digest st s session.finds stage).0)) plain) (turn_stage order digest st s session.finds stage).1
      by_stage session seated Idle is = inv
      by_stage session seated (UnderWay work) is = by_request session seated work is (slice_get st.requests s) refl
      by_stage session seated (Ended o present) is = inv

      by_seat :
          (seated : Result Session IndexFault) → seat st s ≡ seated →
          Inv order digest (feed_turn order s (heard {V = V} (replied Turned (turn_seat order digest st s seated).0)) plain) (turn_seat order digest st s seated).1
      by_seat (Ok session) is = by_stage session (seated_session s session is) session.stage refl
      by_seat (Err f) is = inv

  -- a session is idle again, after collect or abandon
  restaged_kept : (s : ℕ) (session : Session) → slice_get st.core.sessions s ≡ Some session → (o : Operation) (present : Bool) → session.stage ≡ Ended o present → Inv order digest (noting s nothing plain) (restaged st s Idle)
  restaged_kept s session seated o present is =
      inv_from _ _ (restaged_shape st inv.shape s Idle) (refl, refl)
      (λ d e. kept_same order rank bucket _ st.core.places (restaged_seen d e st inv.shape s (session_few s session seated) Idle) (collect_kept s (inv.kept d e) o present (ap stage_in seated ∙ is)))

  -- collect keeps the invariant
  collected_kept : (s : ℕ) → Inv order digest (feed_note order s nothing (heard (replied Collected (collect st s).0)) plain) (collect st s).1
  collected_kept s = by_seat (seat st s) refl
    where
      by_stage :
          (session : Session) → slice_get st.core.sessions s ≡ Some session → (stage : Stage) → session.stage ≡ stage →
          Inv order digest (feed_note order s nothing (heard (replied Collected (collect_stage st s stage).0)) plain) (collect_stage st s stage).1
      by_stage session seated Idle is = inv
      by_stage session seated (UnderWay work) is = inv
      by_stage session seated (Ended o present) is = restaged_kept s session seated o present is

      by_seat : (seated : Result Session IndexFault) → seat st s ≡ seated → Inv order digest (feed_note order s nothing (heard (replied Collected (collect_seat st s seated).0)) plain) (collect_seat st s seated).1
      by_seat (Ok session) is = by_stage session (seated_session s session is) session.stage refl
      by_seat (Err f) is = inv

  -- a session under way is abandoned
  given_up_kept : (s : ℕ) (session : Session) → slice_get st.core.sessions s ≡ Some session → (work : Work) → session.stage ≡ UnderWay work → Inv order digest (noting s nothing plain) (abandoned st s work)
  given_up_kept s session seated work is =
      inv_from _ _ (abandoned_shape st inv.shape s work) (refl, refl)
      (λ d e.
      let kept = inv.kept d e in
      let under_way : (whole d e st).stage s ≡ UnderWay work = ap stage_in seated ∙ is in
      kept_same order rank bucket _ st.core.places
      (abandoned_seen d e st inv.shape s (session_few s session seated) work (claim_within kept under_way) (aside_within kept under_way)) (abandon_kept s kept work under_way))

  -- abandon keeps the invariant
  abandoned_kept : (s : ℕ) → Inv order digest (feed_note order s nothing (heard {V = V} (replied (λ _. Abandoned) (abandon st s).0)) plain) (abandon st s).1
  abandoned_kept s = by_seat (seat st s) refl
    where
      by_stage :
          (session : Session) → slice_get st.core.sessions s ≡ Some session → (stage : Stage) → session.stage ≡ stage →
          Inv order digest (feed_note order s nothing (heard {V = V} (replied (λ _. Abandoned) (abandon_stage st s stage).0)) plain) (abandon_stage st s stage).1
      by_stage session seated Idle is = inv
      by_stage session seated (UnderWay work) is = given_up_kept s session seated work is
      by_stage session seated (Ended o present) is = restaged_kept s session seated o present is

      by_seat : (seated : Result Session IndexFault) → seat st s ≡ seated → Inv order digest (feed_note order s nothing (heard {V = V} (replied (λ _. Abandoned) (abandon_seat st s seated).0)) plain) (abandon_seat st s seated).1
      by_seat (Ok session) is = by_stage session (seated_session s session is) session.stage refl
      by_seat (Err f) is = inv

  -- an idle session begins a task with a job for it
  begun_kept : (s : ℕ) (session : Session) → slice_get st.core.sessions s ≡ Some session → session.stage ≡ Idle → (t : Task K V) (j : Job) → job_for (first_free st) t.operation ≡ Ok j → Inv order digest (noting s (asked t) plain) (begun st s t j)
  begun_kept s session seated is t j found =
      inv_from _ _ (begun_shape st inv.shape s t j within) (begun_sized st s t j)
      (λ d e.
      kept_same order rank bucket _ st.core.places (begun_seen d e st inv.shape s (session_few s session seated) t j within)
      (begin_kept s t j (inv.kept d e) (ap stage_in seated ∙ is) for_it.0
      (λ x aside. let free = first_free_is_free d e st inv.shape x (for_it.1 x aside) in record { within = free.0; out = free.1; untrodden = free.2 })))
    where
      for_it : (operation_of j ≡ t.operation) × ((x : ℕ) → aside_of j ≡ Some x → first_free st ≡ Some x)
      for_it = job_for_does (first_free st) t.operation j found

      within : Within st.core.places (aside_of j)
      within = go (aside_of j) refl
        where
          go : (o : Option ℕ) → aside_of j ≡ o → Within st.core.places o
          go None aside = tt
          go (Some x) aside = (first_free_is_free t.key t.value st inv.shape x (for_it.1 x aside)).0

  -- begin keeps the invariant
  begin_task_kept : (s : ℕ) (t : Task K V) → Inv order digest (feed_note order s (asked t) (heard {V = V} (replied (λ _. Begun) (begin st s t).0)) plain) (begin st s t).1
  begin_task_kept s t = by_seat (seat st s) refl
    where
      by_job :
          (session : Session) → slice_get st.core.sessions s ≡ Some session → session.stage ≡ Idle → (j : Result Job IndexFault) → job_for (first_free st) t.operation ≡ j →
          Inv order digest (feed_note order s (asked t) (heard {V = V} (replied (λ _. Begun) (begin_job st s t j).0)) plain) (begin_job st s t j).1
      by_job session seated idle (Ok j) is = begun_kept s session seated idle t j is
      by_job session seated idle (Err f) is = inv

      by_stage :
          (session : Session) → slice_get st.core.sessions s ≡ Some session → (stage : Stage) → session.stage ≡ stage →
          Inv order digest (feed_note order s (asked t) (heard {V = V} (replied (λ _. Begun) (begin_stage st s t stage).0)) plain) (begin_stage st s t stage).1
      by_stage session seated Idle is = by_job session seated is (job_for (first_free st) t.operation) refl
      by_stage session seated (UnderWay work) is = inv
      by_stage session seated (Ended o present) is = inv

      by_seat : (seated : Result Session IndexFault) → seat st s ≡ seated → Inv order digest (feed_note order s (asked t) (heard {V = V} (replied (λ _. Begun) (begin_seat st s t seated).0)) plain) (begin_seat st s t seated).1
      by_seat (Ok session) is = by_stage session (seated_session s session is) session.stage refl
      by_seat (Err f) is = inv

  -- whatever the action
  action_kept : (s : ℕ) (a : Action K V) → Inv order digest (feed_by order s a (heard (step_by order digest st s a).0) plain) (step_by order digest st s a).1
  action_kept s (Begin t) = begin_task_kept s t
  action_kept s Turn = turn_kept s
  action_kept s Collect = collected_kept s
  action_kept s Abandon = abandoned_kept s

-- every step keeps the invariant, with the plain table that was fed the call and what was heard of it
pub step_keeps :
    {K V : Type 0} (order : K → K → Ordering) (digest : K → Hash) → LawfulKind order digest →
    (plain : Plain K V) (st after : State K V) (c : Call K V) (r : Result (Reply V) IndexFault) →
    Inv order digest plain st → step order digest st c ≡ (r, after) → Inv order digest (feed order c (heard r) plain) after
step_keeps order digest laws plain st after c r inv stepped =
    subst (λ done. Inv order digest (feed order c (heard done.0) plain) done.1) stepped (action_kept order digest laws plain st inv c.session c.action)

-- every step leaves as many places as there were
pub step_places :
    {K V : Type 0} (order : K → K → Ordering) (digest : K → Hash) (st after : State K V) (c : Call K V) (r : Result (Reply V) IndexFault) →
    step order digest st c ≡ (r, after) → after.core.places ≡ st.core.places
step_places order digest st after c r stepped = ap (λ done. done.1.core.places) (sym stepped) ∙ (step_sized st order digest c.session c.action).0

-- and as many head bits
pub step_bits :
    {K V : Type 0} (order : K → K → Ordering) (digest : K → Hash) (st after : State K V) (c : Call K V) (r : Result (Reply V) IndexFault) →
    step order digest st c ≡ (r, after) → after.core.bits ≡ st.core.bits
step_bits order digest st after c r stepped = ap (λ done. done.1.core.bits) (sym stepped) ∙ (step_sized st order digest c.session c.action).1
