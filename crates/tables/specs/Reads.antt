-- The two reads that can meet a number that is no place of the table.
use Rattle.std.specs.Prelude.{ℕ, cond, List, Some, None, Ok, Err, Option, Result, ◌==◌, nat_lt}
use Rattle.std.specs.List.{slice_get}
use Rattle.calls.specs.declared.fault.IndexFault.{IndexFault}
use Rattle.calls.specs.declared.fault.IndexFault.TheVariants.{OutsideTable}
use Rattle.tables.specs.declared.item.Item.{Item}

-- the number that stands for no head
abbrev pub none : ℕ
none = 4294967295

-- a head as it is written
abbrev pub head_word : Option ℕ → ℕ
head_word None = none
head_word (Some p) = p

-- a number of the head table: none, a place, or a fault
abbrev pub head_place : ℕ → Option ℕ → Result (Option ℕ) IndexFault
head_place places None = Err OutsideTable
head_place places (Some h) = cond (h == none) (Ok None) (cond (nat_lt h places) (Ok (Some h)) (Err OutsideTable))

-- the head of a bucket
abbrev pub read_head : ℕ → List ℕ → ℕ → Result (Option ℕ) IndexFault
read_head places heads bucket = head_place places (slice_get heads bucket)

-- the next of an item
abbrev pub read_next : {K V : Type 0} → ℕ → Item K V → Result ℕ IndexFault
read_next places it = cond (nat_lt it.next places) (Ok it.next) (Err OutsideTable)
