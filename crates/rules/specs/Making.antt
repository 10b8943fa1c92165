-- Making an index in tables with any contents.
use Rattle.std.specs.Prelude.{ℕ, suc, ◌-◌, ◌^◌, Bool, true, false, cond, ◌&&◌, List, [], ◌∷◌, length, replicate, Ok, Err, ◌==◌, nat_le, nat_lt}
use Rattle.calls.specs.declared.fault.IndexFault.TheVariants.{HeadBits, TableLengths}
use Rattle.tables.specs.declared.item.Item.{Item}
use Rattle.tables.specs.declared.record.Core.{Core}
use Rattle.tables.specs.Items.{blank_at}
use Rattle.tables.specs.Reads.{none}
use Rattle.tables.specs.Sessions.{idle}
use Rattle.rules.specs.States.{State, state, Outcome}

-- the record: all sessions idle, and the hand at the last place
abbrev pub new_core : ℕ → ℕ → Core
new_core k n = record { sessions = replicate 16 idle; bits = k; places = n; hand = n - 1; made = true }

-- a record that was never made
abbrev pub blank_core : Core
blank_core = record { sessions = replicate 16 idle; bits = 0; places = 0; hand = 0; made = false }

-- these lengths of the three tables are those of an index of k head bits
abbrev pub are_makable : ℕ → ℕ → ℕ → ℕ → Bool
are_makable k heads items requests = heads == 2 ^ k && nat_le 1 items && nat_le items 4096 && requests == 16

module _ {K V : Type 0} where
  -- the items from place p on: out, unoccupied and with themselves as next
  abbrev pub blank_from : ℕ → List (Item K V) → List (Item K V)
  blank_from p [] = []
  blank_from p (it ∷ its) = blank_at p it ∷ blank_from (suc p) its

  abbrev pub is_makable : ℕ → State K V → Bool
  is_makable k st = are_makable k (length st.heads) (length st.items) (length st.requests)

  -- all heads none; keys and values stay
  abbrev pub made : ℕ → State K V → State K V
  made k st = state (new_core k (length st.items)) (replicate (length st.heads) none) (blank_from 0 st.items) st.requests

  abbrev pub make : ℕ → State K V → Outcome (Unit {0}) K V
  make k st = cond (nat_lt 8 k) (Err HeadBits, st) (cond (is_makable k st) (Ok tt, made k st) (Err TableLengths, st))
