-- One turn: decide, then act.
use Rattle.std.specs.Prelude.{ℕ, Some, None, Ok, Err, Option, Result}
use Rattle.std.specs.List.{slice_get}
use Rattle.std.specs.declared.cmp.Ordering.{Ordering}
use Rattle.calls.specs.declared.fault.IndexFault.{IndexFault}
use Rattle.calls.specs.declared.fault.IndexFault.TheVariants as fault
use Rattle.calls.specs.declared.reply.Progress.{Progress}
use Rattle.keys.specs.Hashes.{Hash}
use Rattle.keys.specs.Ranks.{bucket_of}
use Rattle.tables.specs.declared.moves.Move.{Move}
use Rattle.tables.specs.declared.request.Request.{Request}
use Rattle.tables.specs.declared.session.Session.{Session}
use Rattle.tables.specs.declared.session.Stage.{Stage}
use Rattle.tables.specs.declared.session.Stage.TheVariants.{Idle, UnderWay, Ended}
use Rattle.tables.specs.declared.session.Work.{Work}
use Rattle.tables.specs.Sessions.{job_of}
use Rattle.rules.specs.States.{State, Outcome, seat}
use Rattle.rules.specs.Decide.{decide}
use Rattle.rules.specs.Act.{act}

module _ {K V : Type 0} (order : K → K → Ordering) (digest : K → Hash) (st : State K V) (s : ℕ) where
  abbrev pub turn_move : Work → ℕ → Request K V → Result (Move V) IndexFault → Outcome Progress K V
  turn_move w finds r (Err e) = (Err e, st)
  turn_move w finds r (Ok m) =
      let done = act st s (job_of w) finds r (bucket_of order digest st.core.bits r.key) m in
      (Ok done.0, done.1)

  -- the request table has sixteen entries, so the session's is there
  abbrev pub turn_request : Work → ℕ → Option (Request K V) → Outcome Progress K V
  turn_request w finds None = (Err fault.NoSession, st)
  turn_request w finds (Some r) = turn_move w finds r (decide order digest st r.key w)

  abbrev pub turn_stage : ℕ → Stage → Outcome Progress K V
  turn_stage finds Idle = (Err fault.Idle, st)
  turn_stage finds (UnderWay w) = turn_request w finds (slice_get st.requests s)
  turn_stage finds (Ended o present) = (Err fault.Ended, st)

  abbrev pub turn_seat : Result Session IndexFault → Outcome Progress K V
  turn_seat (Err e) = (Err e, st)
  turn_seat (Ok session) = turn_stage session.finds session.stage

  abbrev pub turn : Outcome Progress K V
  turn = turn_seat (seat st s)
