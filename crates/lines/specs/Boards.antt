-- The two boards, and the message of a whole line.
use Rattle.std.specs.Prelude.{ℕ, cond, ◌||◌, List, length, Ok, Err, Result, ◌==◌, nat_lt}
use Rattle.keys.specs.declared.berth.Berth.{Berth}
use Rattle.lines.specs.declared.berths.Sailing.{Sailing}
use Rattle.lines.specs.declared.fault.FieldFault.{FieldFault}
use Rattle.lines.specs.declared.fault.LineFault.{LineFault}
use Rattle.lines.specs.declared.fault.LineFault.TheVariants.{Length, Field}
use Rattle.lines.specs.declared.message.Message.{Message}
use Rattle.lines.specs.declared.message.Message.TheVariants.{Berths, Ships}
use Rattle.lines.specs.declared.word.Letter.{Letter}
use Rattle.lines.specs.declared.word.Letter.TheVariants.{B, S}
use Rattle.lines.specs.Calls.{call_in}
use Rattle.lines.specs.Readings.{Reading, and_then, given, start, word_in, number_in, name_in}
use Rattle.lines.specs.Words.{letter_of}

-- the berth board: a harbour and a berth; a ship and a minute of the day
abbrev pub berth_in : Reading Berth
berth_in =
    and_then (number_in 65535) (λ h.
    and_then (number_in 65535) (λ b.
    given (Ok (record { harbour = h; berth = b }))))

abbrev pub sailing_in : Reading Sailing
sailing_in =
    and_then (number_in 4294967295) (λ s.
    and_then (number_in 1439) (λ m.
    given (Ok (record { ship = s; minute = m }))))

-- the ship board: a name; a berth number
abbrev pub berth_number_in : Reading ℕ
berth_number_in = number_in 65535

abbrev pub message_by : Letter → Reading Message
message_by B = and_then (call_in berth_in sailing_in) (λ c. given (Ok (Berths c)))
message_by S = and_then (call_in name_in berth_number_in) (λ c. given (Ok (Ships c)))

-- the letter, and what its board's lines go on with
abbrev pub message_in : Reading Message
message_in = and_then (word_in letter_of) message_by

-- a field's fault goes up whole inside the line's
abbrev pub in_line : {X : Type 0} → Result X FieldFault → Result X LineFault
in_line (Ok x) = Ok x
in_line (Err e) = Err (Field e)

-- what a line of 1 to 80 bytes says, or why it is refused
abbrev pub message_of : List ℕ → Result Message LineFault
message_of line = cond (length line == 0 || nat_lt 80 (length line)) (Err Length) (in_line (message_in line start).0)
