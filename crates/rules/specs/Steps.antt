-- Any call on an index, as one step.
use Rattle.std.specs.Prelude.{ℕ, List, [], ◌∷◌, Ok, Err, Result}
use Rattle.std.specs.declared.cmp.Ordering.{Ordering}
use Rattle.calls.specs.declared.call.Action.{Action}
use Rattle.calls.specs.declared.call.Action.TheVariants.{Begin, Turn, Collect, Abandon}
use Rattle.calls.specs.declared.call.Call.{Call}
use Rattle.calls.specs.declared.fault.IndexFault.{IndexFault}
use Rattle.calls.specs.declared.reply.Reply.{Reply}
use Rattle.calls.specs.declared.reply.Reply.TheVariants.{Begun, Turned, Collected, Abandoned}
use Rattle.keys.specs.Hashes.{Hash}
use Rattle.rules.specs.States.{State, Outcome}
use Rattle.rules.specs.Begin.{begin}
use Rattle.rules.specs.Turn.{turn}
use Rattle.rules.specs.Collect.{collect}
use Rattle.rules.specs.Abandon.{abandon}

-- an answer as the reply to its call
abbrev pub replied : {A V : Type 0} → (A → Reply V) → Result A IndexFault → Result (Reply V) IndexFault
replied reply (Ok a) = Ok (reply a)
replied reply (Err e) = Err e

abbrev pub as_reply : {A K V : Type 0} → (A → Reply V) → Outcome A K V → Outcome (Reply V) K V
as_reply reply done = (replied reply done.0, done.1)

module _ {K V : Type 0} (order : K → K → Ordering) (digest : K → Hash) where
  abbrev pub step_by : State K V → ℕ → Action K V → Outcome (Reply V) K V
  step_by st s (Begin task) = as_reply (λ _. Begun) (begin st s task)
  step_by st s Turn = as_reply Turned (turn order digest st s)
  step_by st s Collect = as_reply Collected (collect st s)
  step_by st s Abandon = as_reply (λ _. Abandoned) (abandon st s)

  abbrev pub step : State K V → Call K V → Outcome (Reply V) K V
  step st c = step_by st c.session c.action

  -- the replies to a list of calls, and the state after it
  abbrev pub played : State K V → List (Call K V) → List (Result (Reply V) IndexFault) × State K V
  played st [] = ([], st)
  played st (c ∷ cs) = let done = step st c in let rest = played done.1 cs in (done.0 ∷ rest.0, rest.1)
