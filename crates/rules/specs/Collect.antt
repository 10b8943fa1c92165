-- Collect: an ended session answers, and is idle again.
use Rattle.std.specs.Prelude.{ℕ, Bool, true, false, None, Ok, Err, Option, Result}
use Rattle.std.specs.List.{slice_get}
use Rattle.std.specs.Option.{option_map}
use Rattle.calls.specs.declared.fault.IndexFault.{IndexFault}
use Rattle.calls.specs.declared.fault.IndexFault.TheVariants as fault
use Rattle.tables.specs.declared.request.Request.{Request}
use Rattle.tables.specs.declared.session.Session.{Session}
use Rattle.tables.specs.declared.session.Stage.{Stage}
use Rattle.tables.specs.declared.session.Stage.TheVariants.{Idle, UnderWay, Ended}
use Rattle.tables.specs.Sessions.{at_stage}
use Rattle.rules.specs.States.{State, state, Outcome, in_session, seat}

module _ {K V : Type 0} where
  -- the session at another stage, and nothing else changed
  abbrev pub restaged : State K V → ℕ → Stage → State K V
  restaged st s stage = state (in_session s (at_stage stage) st.core) st.heads st.items st.requests

  -- the value in the session's request if the answer is present
  abbrev pub answer_of : Bool → Option (Request K V) → Option V
  answer_of true r = option_map (λ x. x.value) r
  answer_of false r = None

  abbrev pub collect_stage : State K V → ℕ → Stage → Outcome (Option V) K V
  collect_stage st s Idle = (Err fault.Idle, st)
  collect_stage st s (UnderWay w) = (Err fault.UnderWay, st)
  collect_stage st s (Ended o present) = (Ok (answer_of present (slice_get st.requests s)), restaged st s Idle)

  abbrev pub collect_seat : State K V → ℕ → Result Session IndexFault → Outcome (Option V) K V
  collect_seat st s (Err e) = (Err e, st)
  collect_seat st s (Ok session) = collect_stage st s session.stage

  abbrev pub collect : State K V → ℕ → Outcome (Option V) K V
  collect st s = collect_seat st s (seat st s)
