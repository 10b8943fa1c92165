-- The plain table: what an index means. It goes from keys to values, and notes for each session the
-- task that it has begun, or the answer of one that has ended. It is fed the calls with their
-- arguments, whether each was refused, and whether a turn said ended, and nothing else.
use Rattle.std.specs.Prelude.{◌≡◌, ℕ, cond, List, [], ◌∷◌, Some, None, Ok, Err, Option, Result, ◌==◌}
use Rattle.std.specs.declared.cmp.Ordering.{Ordering}
use Rattle.std.specs.Ordering.{is_eq}
use Rattle.calls.specs.declared.call.Action.{Action}
use Rattle.calls.specs.declared.call.Action.TheVariants.{Begin, Turn, Collect, Abandon}
use Rattle.calls.specs.declared.call.Call.{Call}
use Rattle.calls.specs.declared.call.Task.{Task}
use Rattle.calls.specs.declared.fault.IndexFault.{IndexFault}
use Rattle.calls.specs.declared.reply.Progress.{Progress}
use Rattle.calls.specs.declared.reply.Progress.TheVariants.{Moved, Again, Held, Claimed, Ended}
use Rattle.calls.specs.declared.reply.Reply.{Reply}
use Rattle.calls.specs.declared.reply.Reply.TheVariants.{Begun, Turned, Collected, Abandoned}
use Rattle.calls.specs.Operations.{leaves}

-- what is noted for a session
pub data Note (K V : Type 0) : Type 0 where
  nothing : Note K V
  asked : Task K V → Note K V
  answer : Option V → Note K V

pub record Plain (K V : Type 0) : Type 0 where
  pub entries : List (K × V)
  pub notes : ℕ → Note K V

-- it begins empty, with nothing noted
abbrev pub fresh : {K V : Type 0} → Plain K V
fresh = record { entries = []; notes = λ s. nothing }

-- whether a call was refused, accepted, or a turn that said ended
pub data Heard : Type 0 where
  refused : Heard
  accepted : Heard
  ended : Heard

abbrev pub heard_turn : Progress → Heard
heard_turn Moved = accepted
heard_turn Again = accepted
heard_turn Held = accepted
heard_turn Claimed = accepted
heard_turn Ended = ended

abbrev pub heard_reply : {V : Type 0} → Reply V → Heard
heard_reply Begun = accepted
heard_reply (Turned word) = heard_turn word
heard_reply (Collected v) = accepted
heard_reply Abandoned = accepted

abbrev pub heard : {V : Type 0} → Result (Reply V) IndexFault → Heard
heard (Ok r) = heard_reply r
heard (Err e) = refused

-- a session's note becomes another
abbrev pub noting : {K V : Type 0} → ℕ → Note K V → Plain K V → Plain K V
noting s note p = record { entries = p.entries; notes = λ t. cond (t == s) note (p.notes t) }

-- alike keys count as one key
module _ {K V : Type 0} (order : K → K → Ordering) where
  -- the value of a key, or absent
  abbrev pub found : K → List (K × V) → Option V
  found x [] = None
  found x (e ∷ es) = cond (is_eq (order e.0 x)) (Some e.1) (found x es)

  -- the entries with another value at a key
  abbrev pub stored : K → V → List (K × V) → List (K × V)
  stored x v [] = (x, v) ∷ []
  stored x v (e ∷ es) = cond (is_eq (order e.0 x)) ((e.0, v) ∷ es) (e ∷ stored x v es)

  abbrev pub deleted : K → List (K × V) → List (K × V)
  deleted x [] = []
  deleted x (e ∷ es) = cond (is_eq (order e.0 x)) es (e ∷ deleted x es)

  -- the key has this value after it, or is absent
  abbrev pub put : K → Option V → List (K × V) → List (K × V)
  put x None es = deleted x es
  put x (Some v) es = stored x v es

  -- no two entries have alike keys, so that their number is that of the keys
  abbrev pub Apart : List (K × V) → Type 0
  Apart [] = Unit {0}
  Apart (e ∷ es) = (found e.0 es ≡ None) × Apart es

  -- a task is done: its answer is the value that the key had just before
  abbrev pub do_task : ℕ → Task K V → Plain K V → Plain K V
  do_task s t p =
      noting s (answer (found t.key p.entries))
      (record { entries = put t.key (leaves t.operation t.value (found t.key p.entries)) p.entries; notes = p.notes })

  abbrev pub do_noted : ℕ → Note K V → Plain K V → Plain K V
  do_noted s nothing p = p
  do_noted s (asked t) p = do_task s t p
  do_noted s (answer v) p = p

  abbrev pub feed_turn : ℕ → Heard → Plain K V → Plain K V
  feed_turn s refused p = p
  feed_turn s accepted p = p
  feed_turn s ended p = do_noted s (p.notes s) p

  -- an accepted call sets the session's note
  abbrev pub feed_note : ℕ → Note K V → Heard → Plain K V → Plain K V
  feed_note s note refused p = p
  feed_note s note accepted p = noting s note p
  feed_note s note ended p = noting s note p

  abbrev pub feed_by : ℕ → Action K V → Heard → Plain K V → Plain K V
  feed_by s (Begin t) h p = feed_note s (asked t) h p
  feed_by s Turn h p = feed_turn s h p
  feed_by s Collect h p = feed_note s nothing h p
  feed_by s Abandon h p = feed_note s nothing h p

  abbrev pub feed : Call K V → Heard → Plain K V → Plain K V
  feed c h p = feed_by c.session c.action h p
