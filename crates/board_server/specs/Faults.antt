-- The number of each refusal of a board, and the field and byte that it names.
use Rattle.std.specs.Prelude.{ℕ}
use Rattle.calls.specs.Faults.{index_number}
use Rattle.lines.specs.declared.fault.Place.{Place}
use Rattle.lines.specs.Faults.{place, line_number, line_place}
use Rattle.board_server.specs.declared.fault.BoardFault.{BoardFault}
use Rattle.board_server.specs.declared.fault.BoardFault.TheVariants.{Line, Index}

abbrev pub board_number : BoardFault → ℕ
board_number (Line f) = line_number f
board_number (Index f) = index_number f

-- a fault of the index has no field
abbrev pub board_place : BoardFault → Place
board_place (Line f) = line_place f
board_place (Index f) = place 0 0
