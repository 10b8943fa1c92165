-- Runs: an index made new, and changed only by begin, turn, collect and abandon, in any order and with
-- any arguments.
use Rattle.std.specs.Prelude.{◌≡◌, ℕ, List, [], ◌∷◌, Ok, Result}
use Rattle.std.specs.declared.cmp.Ordering.{Ordering}
use Rattle.calls.specs.declared.call.Call.{Call}
use Rattle.calls.specs.declared.fault.IndexFault.{IndexFault}
use Rattle.calls.specs.declared.reply.Reply.{Reply}
use Rattle.keys.specs.Hashes.{Hash}
use Rattle.rules.specs.States.{State}
use Rattle.rules.specs.Making.{make}
use Rattle.rules.specs.Steps.{step}
use Rattle.rules.specs.Plain.{Plain, fresh, feed, heard}

-- a call and what it was answered
pub record Event (K V : Type 0) : Type 0 where
  pub call : Call K V
  pub reply : Result (Reply V) IndexFault

-- the plain table after these events, the newest first
abbrev pub plain_after : {K V : Type 0} → (K → K → Ordering) → List (Event K V) → Plain K V
plain_after order [] = fresh
plain_after order (e ∷ es) = feed order e.call (heard e.reply) (plain_after order es)

module _ {K V : Type 0} (order : K → K → Ordering) (digest : K → Hash) where
  -- these events, the newest first, led from a making in tables with any contents to this state
  pub data Run : List (Event K V) → State K V → Type 0 where
    new : {st : State K V} (old : State K V) (k : ℕ) → make k old ≡ (Ok tt, st) → Run [] st
    more : {es : List (Event K V)} {st after : State K V} (e : Event K V) → Run es st → step order digest st e.call ≡ (e.reply, after) → Run (e ∷ es) after

  -- a list of calls from a state on, with their replies, as events after earlier ones, the newest first
  abbrev pub recorded : State K V → List (Call K V) → List (Event K V) → List (Event K V)
  recorded st [] es = es
  recorded st (c ∷ cs) es = let done = step order digest st c in recorded done.1 cs (record { call = c; reply = done.0 } ∷ es)
