-- What the line of any board asks for.
use Rattle.std.specs.Prelude.{ℕ, Ok}
use Rattle.calls.specs.declared.call.Action.{Action}
use Rattle.calls.specs.declared.call.Action.TheVariants as action
use Rattle.calls.specs.declared.call.Call.{Call}
use Rattle.calls.specs.declared.call.Task.{Task}
use Rattle.lines.specs.declared.word.Verb.{Verb}
use Rattle.lines.specs.declared.word.Verb.TheVariants.{Begin, Turn, Collect, Abandon}
use Rattle.lines.specs.Readings.{Reading, and_then, given, word_in, number_in, end_in}
use Rattle.lines.specs.Words.{verb_of, operation_of}

-- how many fields a line with this verb has, where a begin has so many
abbrev pub wanted_fields : ℕ → Verb → ℕ
wanted_fields begin_fields Begin = begin_fields
wanted_fields begin_fields Turn = 3
wanted_fields begin_fields Collect = 3
wanted_fields begin_fields Abandon = 3

-- by the readings of the board's keys and values
module _ {K V : Type 0} (key_in : Reading K) (value_in : Reading V) where
  -- a begin goes on with the operation, the key and the value
  abbrev pub task_in : Reading (Task K V)
  task_in =
      and_then (word_in operation_of) (λ o.
      and_then key_in (λ k.
      and_then value_in (λ v.
      given (Ok (record { operation = o; key = k; value = v })))))

  abbrev pub action_in : Verb → Reading (Action K V)
  action_in Begin = and_then task_in (λ t. given (Ok (action.Begin t)))
  action_in Turn = given (Ok action.Turn)
  action_in Collect = given (Ok action.Collect)
  action_in Abandon = given (Ok action.Abandon)

  -- the verb, the session, what the verb goes on with, and then no field more
  abbrev pub call_in : Reading (Call K V)
  call_in =
      and_then (word_in verb_of) (λ verb.
      and_then (number_in 255) (λ session.
      and_then (action_in verb) (λ a.
      and_then end_in (λ _.
      given (Ok (record { session = session; action = a }))))))
