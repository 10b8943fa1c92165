-- No call changes the number of places or of head bits, in any state.
use Rattle.std.proofs.Common.{◌≡◌, ℕ, Some, None, Ok, Err, Option, Result, refl}
use Rattle.std.specs.List.{slice_get}
use Rattle.std.specs.declared.cmp.Ordering.{Ordering}
use Rattle.calls.specs.declared.call.Action.{Action}
use Rattle.calls.specs.declared.call.Action.TheVariants.{Begin, Turn, Collect, Abandon}
use Rattle.calls.specs.declared.call.Task.{Task}
use Rattle.calls.specs.declared.fault.IndexFault.{IndexFault}
use Rattle.keys.specs.Hashes.{Hash}
use Rattle.keys.specs.Ranks.{bucket_of}
use Rattle.tables.specs.declared.moves.Move.{Move}
use Rattle.tables.specs.declared.moves.Move.TheVariants.{Step, Leave, GiveUp, Wait, ClaimToReplace, ClaimToRemove, Absent, LinkAlone, Link, Present, SwingIn, SwingOut}
use Rattle.tables.specs.declared.request.Request.{Request}
use Rattle.tables.specs.declared.session.Job.{Job}
use Rattle.tables.specs.declared.session.Job.TheVariants as job
use Rattle.tables.specs.declared.session.Session.{Session}
use Rattle.tables.specs.declared.session.Stage.{Stage}
use Rattle.tables.specs.declared.session.Stage.TheVariants.{Idle, UnderWay, Ended}
use Rattle.tables.specs.declared.session.Work.{Work}
use Rattle.tables.specs.Sessions.{job_of}
use Rattle.rules.specs.Abandon.{abandon_stage, abandon_seat}
use Rattle.rules.specs.Act.{act}
use Rattle.rules.specs.Begin.{job_for, begin_job, begin_stage, begin_seat, begun}
use Rattle.rules.specs.Collect.{collect_stage, collect_seat}
use Rattle.rules.specs.Decide.{decide}
use Rattle.rules.specs.Free.{first_free}
use Rattle.rules.specs.States.{State, seat}
use Rattle.rules.specs.Steps.{step_by}
use Rattle.rules.specs.Turn.{turn_move, turn_request, turn_stage, turn_seat}

module _ {K V : Type 0} (st : State K V) where
  -- the state after has as many places and head bits
  abbrev pub Sized : State K V → Type 0
  Sized after = (after.core.places ≡ st.core.places) × (after.core.bits ≡ st.core.bits)

  -- a turn that has decided
  pub act_sized : (s : ℕ) (j : Job) (finds : ℕ) (r : Request K V) (b : ℕ) (m : Move V) → Sized (act st s j finds r b m).1
  act_sized s j finds r b (Step p) = (refl, refl)
  act_sized s j finds r b Leave = (refl, refl)
  act_sized s j finds r b (GiveUp p) = (refl, refl)
  act_sized s j finds r b Wait = (refl, refl)
  act_sized s j finds r b (ClaimToReplace x pair ahead) = (refl, refl)
  act_sized s j finds r b (ClaimToRemove pair) = (refl, refl)
  act_sized s j finds r b Absent = (refl, refl)
  act_sized s j finds r b (LinkAlone x) = (refl, refl)
  act_sized s j finds r b (Link x pair) = (refl, refl)
  act_sized s j finds r b (Present p v) = (refl, refl)
  act_sized s j finds r b (SwingIn x pair head v) = (refl, refl)
  act_sized s j finds r b (SwingOut pair ahead head v) = (refl, refl)

  -- a session that begins
  pub begun_sized : (s : ℕ) (t : Task K V) (j : Job) → Sized (begun st s t j)
  begun_sized s t job.Find = (refl, refl)
  begun_sized s t (job.Insert x) = (refl, refl)
  begun_sized s t job.Write = (refl, refl)
  begun_sized s t (job.Replace x) = (refl, refl)
  begun_sized s t job.Remove = (refl, refl)
  begun_sized s t job.Point = (refl, refl)

  -- begin, by its job
  begin_job_sized : (s : ℕ) (t : Task K V) (j : Result Job IndexFault) → Sized (begin_job st s t j).1
  begin_job_sized s t (Ok j) = begun_sized s t j
  begin_job_sized s t (Err f) = (refl, refl)

  -- begin, by the session's stage
  begin_stage_sized : (s : ℕ) (t : Task K V) (stage : Stage) → Sized (begin_stage st s t stage).1
  begin_stage_sized s t Idle = begin_job_sized s t (job_for (first_free st) t.operation)
  begin_stage_sized s t (UnderWay work) = (refl, refl)
  begin_stage_sized s t (Ended o present) = (refl, refl)

  -- begin, by the seat
  begin_sized : (s : ℕ) (t : Task K V) (seated : Result Session IndexFault) → Sized (begin_seat st s t seated).1
  begin_sized s t (Ok session) = begin_stage_sized s t session.stage
  begin_sized s t (Err f) = (refl, refl)

  -- collect, by the session's stage
  collect_stage_sized : (s : ℕ) (stage : Stage) → Sized (collect_stage st s stage).1
  collect_stage_sized s Idle = (refl, refl)
  collect_stage_sized s (UnderWay work) = (refl, refl)
  collect_stage_sized s (Ended o present) = (refl, refl)

  -- collect, by the seat
  collect_sized : (s : ℕ) (seated : Result Session IndexFault) → Sized (collect_seat st s seated).1
  collect_sized s (Ok session) = collect_stage_sized s session.stage
  collect_sized s (Err f) = (refl, refl)

  -- abandon, by the session's stage
  abandon_stage_sized : (s : ℕ) (stage : Stage) → Sized (abandon_stage st s stage).1
  abandon_stage_sized s Idle = (refl, refl)
  abandon_stage_sized s (UnderWay work) = (refl, refl)
  abandon_stage_sized s (Ended o present) = (refl, refl)

  -- abandon, by the seat
  abandon_sized : (s : ℕ) (seated : Result Session IndexFault) → Sized (abandon_seat st s seated).1
  abandon_sized s (Ok session) = abandon_stage_sized s session.stage
  abandon_sized s (Err f) = (refl, refl)

  module _ (order : K → K → Ordering) (digest : K → Hash) where
    -- a turn, by what it decides
    turn_move_sized : (s : ℕ) (work : Work) (finds : ℕ) (r : Request K V) (m : Result (Move V) IndexFault) → Sized (turn_move order digest st s work finds r m).1
    turn_move_sized s work finds r (Ok m) = act_sized s (job_of work) finds r (bucket_of order digest st.core.bits r.key) m
    turn_move_sized s work finds r (Err f) = (refl, refl)

    -- a turn, by the session's request
    turn_request_sized : (s : ℕ) (work : Work) (finds : ℕ) (r : Option (Request K V)) → Sized (turn_request order digest st s work finds r).1
    turn_request_sized s work finds (Some r) = turn_move_sized s work finds r (decide order digest st r.key work)
    turn_request_sized s work finds None = (refl, refl)

    -- a turn, by the session's stage
    turn_stage_sized : (s finds : ℕ) (stage : Stage) → Sized (turn_stage order digest st s finds stage).1
    turn_stage_sized s finds Idle = (refl, refl)
    turn_stage_sized s finds (UnderWay work) = turn_request_sized s work finds (slice_get st.requests s)
    turn_stage_sized s finds (Ended o present) = (refl, refl)

    -- a turn, by the seat
    turn_sized : (s : ℕ) (seated : Result Session IndexFault) → Sized (turn_seat order digest st s seated).1
    turn_sized s (Ok session) = turn_stage_sized s session.finds session.stage
    turn_sized s (Err f) = (refl, refl)

    -- whatever the call
    pub step_sized : (s : ℕ) (a : Action K V) → Sized (step_by order digest st s a).1
    step_sized s (Begin t) = begin_sized s t (seat st s)
    step_sized s Turn = turn_sized s (seat st s)
    step_sized s Collect = collect_sized s (seat st s)
    step_sized s Abandon = abandon_sized s (seat st s)
