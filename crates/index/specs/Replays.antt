-- What a replay does: a making, and then a list of calls.
use Rattle.std.specs.Prelude.{◌≡◌, ℕ, min, List, ◌++◌, length, take, drop, Ok, Err, Result}
use Rattle.std.specs.declared.cmp.Ordering.{Ordering}
use Rattle.calls.specs.declared.call.Call.{Call}
use Rattle.calls.specs.declared.fault.IndexFault.{IndexFault}
use Rattle.calls.specs.declared.reply.Reply.{Reply}
use Rattle.keys.specs.Hashes.{Hash}
use Rattle.rules.specs.RunLaw.{Replays}
use Rattle.rules.specs.States.{State, Outcome}
use Rattle.rules.specs.Steps.{played}

module _ {K V : Type 0} (order : K → K → Ordering) (digest : K → Hash) where
  -- from the outcome of the making: the replies are those of the first n calls, one by one; the rest of the
  -- table of replies is as it was; and the whole run is sound
  pub record Done (st : State K V) (calls : List (Call K V)) (old : List (Result (Reply V) IndexFault)) (n : ℕ) (replies : List (Result (Reply V) IndexFault)) (after : State K V) : Type 0 where
    pub count : n ≡ min (length calls) (length old)
    pub own : replies ≡ (played order digest st (take n calls)).0 ++ drop n old
    pub reached : after ≡ (played order digest st (take n calls)).1
    pub law : Replays order digest st (take n calls) after

  -- a refused making leaves all as it was
  pub record Undone (st : State K V) (e f : IndexFault) (old replies : List (Result (Reply V) IndexFault)) (after : State K V) : Type 0 where
    pub refused : f ≡ e
    pub same_replies : replies ≡ old
    pub same_state : after ≡ st

  abbrev pub ReplayedBy : Result (Unit {0}) IndexFault → State K V → List (Call K V) → List (Result (Reply V) IndexFault) → Result ℕ IndexFault → List (Result (Reply V) IndexFault) → State K V → Type 0
  ReplayedBy (Ok u) st calls old (Ok n) replies after = Done st calls old n replies after
  ReplayedBy (Ok u) st calls old (Err f) replies after = ⊥
  ReplayedBy (Err e) st calls old (Ok n) replies after = ⊥
  ReplayedBy (Err e) st calls old (Err f) replies after = Undone st e f old replies after

  abbrev pub Replayed : Outcome (Unit {0}) K V → List (Call K V) → List (Result (Reply V) IndexFault) → Result ℕ IndexFault → List (Result (Reply V) IndexFault) → State K V → Type 0
  Replayed making calls old r replies after = ReplayedBy making.0 making.1 calls old r replies after
