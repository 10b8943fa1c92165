-- The number of each refusal of an index call.
use Rattle.std.specs.Prelude.{ℕ}
use Rattle.calls.specs.declared.fault.IndexFault.{IndexFault}
use Rattle.calls.specs.declared.fault.IndexFault.TheVariants.{HeadBits, TableLengths, NotAsMade, NoSession, NotIdle, NoPlace, Idle, Ended, UnderWay, OutsideTable}

abbrev pub index_number : IndexFault → ℕ
index_number HeadBits = 7
index_number TableLengths = 8
index_number NotAsMade = 9
index_number NoSession = 10
index_number NotIdle = 11
index_number NoPlace = 12
index_number Idle = 13
index_number Ended = 14
index_number UnderWay = 15
index_number OutsideTable = 16
