-- The text of an answer.
use Rattle.std.specs.Prelude.{ℕ, List, ◌++◌, Some, None, codes, decimal, Option}
use Rattle.calls.specs.declared.reply.Progress.{Progress}
use Rattle.calls.specs.declared.reply.Progress.TheVariants.{Moved, Again, Held, Claimed, Ended}
use Rattle.calls.specs.declared.reply.Reply.{Reply}
use Rattle.calls.specs.declared.reply.Reply.TheVariants.{Begun, Turned, Collected, Abandoned}
use Rattle.lines.specs.declared.fault.Place.{Place}
use Rattle.lines.specs.declared.berths.Sailing.{Sailing}
use Rattle.text.specs.Kept.{added}
use Rattle.board_server.specs.declared.fault.BoardFault.{BoardFault}
use Rattle.board_server.specs.Faults.{board_number, board_place}

-- the answers of a stream, up to 65536 bytes, with more behind them
abbrev pub appended : List ℕ → List ℕ → List ℕ
appended = added 65536

-- the fields of the berth board's values; a ship board's value is a number
abbrev pub sailing_text : Sailing → List ℕ
sailing_text v = decimal v.ship ++ codes "," ++ decimal v.minute

abbrev pub turn_text : Progress → List ℕ
turn_text Moved = codes "ok,moved"
turn_text Again = codes "ok,again"
turn_text Held = codes "ok,held"
turn_text Claimed = codes "ok,claimed"
turn_text Ended = codes "ok,ended"

-- by the text of the board's values
module _ {V : Type 0} (value_text : V → List ℕ) where
  abbrev pub collect_text : Option V → List ℕ
  collect_text None = codes "ok,absent"
  collect_text (Some v) = codes "ok,present," ++ value_text v

  abbrev pub reply_text : Reply V → List ℕ
  reply_text Begun = codes "ok,begin"
  reply_text (Turned p) = turn_text p
  reply_text (Collected o) = collect_text o
  reply_text Abandoned = codes "ok,abandon"

abbrev pub refusal_text : ℕ → Place → List ℕ
refusal_text number p = codes "no," ++ decimal number ++ codes "," ++ decimal p.field ++ codes "," ++ decimal p.byte

abbrev pub fault_text : BoardFault → List ℕ
fault_text f = refusal_text (board_number f) (board_place f)
