-- A line's refusal as the three numbers that it is written by.
use Rattle.std.specs.Prelude.{ℕ, Ok, Err, Result}
use Rattle.lines.specs.declared.fault.LineFault.{LineFault}
use Rattle.lines.specs.declared.message.Message.{Message}
use Rattle.lines.specs.Faults.{line_number, line_place}

-- number, field and byte of the refusal, or 0 at each where the line is accepted
abbrev pub verdict_of : Result Message LineFault → ℕ × ℕ × ℕ
verdict_of (Ok message) = (0, 0, 0)
verdict_of (Err fault) = (line_number fault, (line_place fault).field, (line_place fault).byte)
