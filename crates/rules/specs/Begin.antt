-- Begin: a session takes up a task.
use Rattle.std.specs.Prelude.{ℕ, List, Some, None, Ok, Err, Option, Result}
use Rattle.calls.specs.declared.call.Task.{Task}
use Rattle.calls.specs.declared.fault.IndexFault.{IndexFault}
use Rattle.calls.specs.declared.fault.IndexFault.TheVariants.{NotIdle, NoPlace}
use Rattle.calls.specs.declared.operation.Operation.{Operation}
use Rattle.calls.specs.declared.operation.Operation.TheVariants.{Find, Insert, Write, Replace, Remove, Point}
use Rattle.tables.specs.declared.item.Item.{Item}
use Rattle.tables.specs.declared.record.Core.{Core}
use Rattle.tables.specs.declared.session.Job.{Job}
use Rattle.tables.specs.declared.session.Job.TheVariants as job
use Rattle.tables.specs.declared.session.Session.{Session}
use Rattle.tables.specs.declared.session.Stage.{Stage}
use Rattle.tables.specs.declared.session.Stage.TheVariants.{Idle, UnderWay, Ended}
use Rattle.tables.specs.declared.session.Work.TheVariants.{Seeking}
use Rattle.tables.specs.Items.{prepared_at, with_request}
use Rattle.tables.specs.Lists.{modify}
use Rattle.tables.specs.Records.{with_hand}
use Rattle.tables.specs.Sessions.{aside_of, at_stage}
use Rattle.rules.specs.States.{State, state, Outcome, in_session, seat}
use Rattle.rules.specs.Free.{first_free}

-- insert and replace want a place, given the first free one
abbrev pub placed : (ℕ → Job) → Option ℕ → Result Job IndexFault
placed make None = Err NoPlace
placed make (Some p) = Ok (make p)

abbrev pub job_for : Option ℕ → Operation → Result Job IndexFault
job_for free Find = Ok job.Find
job_for free Insert = placed job.Insert free
job_for free Write = Ok job.Write
job_for free Replace = placed job.Replace free
job_for free Remove = Ok job.Remove
job_for free Point = Ok job.Point

-- the hand moves to the place set aside
abbrev pub hand_after : Option ℕ → Core → Core
hand_after None core = core
hand_after (Some p) core = with_hand p core

module _ {K V : Type 0} where
  -- the item set aside takes the key and the value
  abbrev pub prepared : Option ℕ → Task K V → List (Item K V) → List (Item K V)
  prepared None task items = items
  prepared (Some p) task items = modify (prepared_at p task.key task.value) p items

  -- the session starts with no cursor
  abbrev pub begun : State K V → ℕ → Task K V → Job → State K V
  begun st s task j =
      state (hand_after (aside_of j) (in_session s (at_stage (UnderWay (Seeking j None))) st.core)) st.heads (prepared (aside_of j) task st.items)
      (modify (with_request task.key task.value) s st.requests)

  abbrev pub begin_job : State K V → ℕ → Task K V → Result Job IndexFault → Outcome (Unit {0}) K V
  begin_job st s task (Err e) = (Err e, st)
  begin_job st s task (Ok j) = (Ok tt, begun st s task j)

  abbrev pub begin_stage : State K V → ℕ → Task K V → Stage → Outcome (Unit {0}) K V
  begin_stage st s task Idle = begin_job st s task (job_for (first_free st) task.operation)
  begin_stage st s task (UnderWay w) = (Err NotIdle, st)
  begin_stage st s task (Ended o present) = (Err NotIdle, st)

  abbrev pub begin_seat : State K V → ℕ → Task K V → Result Session IndexFault → Outcome (Unit {0}) K V
  begin_seat st s task (Err e) = (Err e, st)
  begin_seat st s task (Ok session) = begin_stage st s task session.stage

  abbrev pub begin : State K V → ℕ → Task K V → Outcome (Unit {0}) K V
  begin st s task = begin_seat st s task (seat st s)
