-- Abandon: a session gives its task up, or discards its answer.
use Rattle.std.specs.Prelude.{ℕ, false, List, Some, None, Ok, Err, Option, Result}
use Rattle.calls.specs.declared.fault.IndexFault.{IndexFault}
use Rattle.calls.specs.declared.fault.IndexFault.TheVariants as fault
use Rattle.tables.specs.declared.item.Item.{Item}
use Rattle.tables.specs.declared.item.ItemState.TheVariants.{Out}
use Rattle.tables.specs.declared.session.Session.{Session}
use Rattle.tables.specs.declared.session.Stage.{Stage}
use Rattle.tables.specs.declared.session.Stage.TheVariants.{Idle, UnderWay, Ended}
use Rattle.tables.specs.declared.session.Work.{Work}
use Rattle.tables.specs.Items.{with_mark, with_state}
use Rattle.tables.specs.Lists.{modify}
use Rattle.tables.specs.Sessions.{aside_of, claim_of, job_of, at_stage}
use Rattle.rules.specs.States.{State, state, Outcome, in_session, seat}

module _ {K V : Type 0} where
  -- the mark of a claimed item comes off
  abbrev pub released : Option ℕ → List (Item K V) → List (Item K V)
  released None items = items
  released (Some p) items = modify (with_mark false) p items

  -- an item that was set aside goes out
  abbrev pub put_out : Option ℕ → List (Item K V) → List (Item K V)
  put_out None items = items
  put_out (Some p) items = modify (with_state Out) p items

  abbrev pub abandoned : State K V → ℕ → Work → State K V
  abandoned st s w =
      state (in_session s (at_stage Idle) st.core) st.heads (put_out (aside_of (job_of w)) (released (claim_of w) st.items)) st.requests

  abbrev pub abandon_stage : State K V → ℕ → Stage → Outcome (Unit {0}) K V
  abandon_stage st s Idle = (Err fault.Idle, st)
  abandon_stage st s (UnderWay w) = (Ok tt, abandoned st s w)
  abandon_stage st s (Ended o present) = (Ok tt, state (in_session s (at_stage Idle) st.core) st.heads st.items st.requests)

  abbrev pub abandon_seat : State K V → ℕ → Result Session IndexFault → Outcome (Unit {0}) K V
  abandon_seat st s (Err e) = (Err e, st)
  abandon_seat st s (Ok session) = abandon_stage st s session.stage

  abbrev pub abandon : State K V → ℕ → Outcome (Unit {0}) K V
  abandon st s = abandon_seat st s (seat st s)
