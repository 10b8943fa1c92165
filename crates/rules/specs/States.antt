-- The state of an index: its record and its three tables. Every call answers a reply or a fault, and
-- leaves a state.
use Rattle.std.specs.Prelude.{ℕ, ◌^◌, Bool, cond, ◌&&◌, List, length, Err, Result, ◌==◌}
use Rattle.std.specs.List.{slice_get}
use Rattle.std.specs.Option.{ok_or}
use Rattle.calls.specs.declared.fault.IndexFault.{IndexFault}
use Rattle.calls.specs.declared.fault.IndexFault.TheVariants.{NotAsMade, NoSession}
use Rattle.tables.specs.declared.item.Item.{Item}
use Rattle.tables.specs.declared.record.Core.{Core}
use Rattle.tables.specs.declared.request.Request.{Request}
use Rattle.tables.specs.declared.session.Session.{Session}
pub use Rattle.tables.specs.Records.{in_session}

pub record State (K V : Type 0) : Type 0 where
  pub core : Core
  pub heads : List ℕ
  pub items : List (Item K V)
  pub requests : List (Request K V)

-- an answer or a fault, and the state after the call
abbrev pub Outcome : Type 0 → Type 0 → Type 0 → Type 0
Outcome A K V = Result A IndexFault × State K V

-- these are the lengths of the three tables of an index with so many head bits and places
abbrev pub are_lengths : ℕ → ℕ → ℕ → ℕ → ℕ → Bool
are_lengths bits places heads items requests = heads == 2 ^ bits && items == places && requests == 16

module _ {K V : Type 0} where
  abbrev pub state : Core → List ℕ → List (Item K V) → List (Request K V) → State K V
  state core heads items requests = record { core = core; heads = heads; items = items; requests = requests }

  -- the record was made, and the tables have the lengths of the making
  abbrev pub is_as_made : State K V → Bool
  is_as_made st = st.core.made && are_lengths st.core.bits st.core.places (length st.heads) (length st.items) (length st.requests)

  -- the session that a call speaks of: the first two checks of every call but making
  abbrev pub seat : State K V → ℕ → Result Session IndexFault
  seat st s = cond (is_as_made st) (ok_or (slice_get st.core.sessions s) NoSession) (Err NotAsMade)
