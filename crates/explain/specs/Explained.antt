-- What the program prints of a line.
use Rattle.std.specs.Prelude.{ℕ, ◌+◌, ◌/◌, ◌%◌, Bool, cond, not, ◌&&◌, List, [], ◌∷◌, ◌++◌, Ok, Err, codes, decimal, Result, ◌==◌, nat_le, nat_lt}
use Rattle.std.specs.List.{flat_map}
use Rattle.calls.specs.declared.call.Action.{Action}
use Rattle.calls.specs.declared.call.Action.TheVariants.{Begin, Turn, Collect, Abandon}
use Rattle.calls.specs.declared.call.Call.{Call}
use Rattle.calls.specs.declared.call.Task.{Task}
use Rattle.keys.specs.declared.berth.Berth.{Berth}
use Rattle.keys.specs.declared.name.Name.{Name as NameOf}
use Rattle.keys.specs.declared.name.NameFault.{NameFault}
use Rattle.keys.specs.declared.name.NameFault.TheVariants.{Empty, Long}
use Rattle.keys.specs.Hashes.{Hash, bucket, tag}
use Rattle.keys.specs.Berths.{berth_hash}
use Rattle.keys.specs.Names.{used, name_hash}
use Rattle.lines.specs.declared.berths.Sailing.{Sailing}
use Rattle.lines.specs.declared.fault.Cause.{Cause}
use Rattle.lines.specs.declared.fault.Cause.TheVariants.{Missing, Strange, Large, Name, Extra}
use Rattle.lines.specs.declared.fault.LineFault.{LineFault}
use Rattle.lines.specs.declared.fault.LineFault.TheVariants.{Length, Field}
use Rattle.lines.specs.declared.message.Message.{Message}
use Rattle.lines.specs.declared.message.Message.TheVariants.{Berths, Ships}
use Rattle.lines.specs.Boards.{message_of}
use Rattle.lines.specs.Faults.{line_number, line_place}
use Rattle.lines.specs.Words.{operation}

-- how many head bits the program places keys by
abbrev pub head_bits : ℕ
head_bits = 4

-- a byte of a name as it is shown: itself, or \xHH if it is not printable or is a backslash
abbrev pub is_plain : ℕ → Bool
is_plain b = nat_le 32 b && nat_le b 126 && not (b == 92)

abbrev pub hex_digit : ℕ → ℕ
hex_digit d = cond (nat_lt d 10) (48 + d) (87 + d)

abbrev pub byte_text : ℕ → List ℕ
byte_text b = cond (is_plain b) (b ∷ []) (92 ∷ 120 ∷ hex_digit (b / 16) ∷ hex_digit (b % 16) ∷ [])

abbrev pub berth_text : Berth → List ℕ
berth_text k = codes "harbour " ++ decimal k.harbour ++ codes ", berth " ++ decimal k.berth

abbrev pub sailing_text : Sailing → List ℕ
sailing_text v = codes "ship " ++ decimal v.ship ++ codes ", minute " ++ decimal v.minute

abbrev pub name_text : NameOf → List ℕ
name_text k = codes "name " ++ flat_map byte_text (used k)

abbrev pub berth_number_text : ℕ → List ℕ
berth_number_text v = codes "berth " ++ decimal v

-- where a key lies
abbrev pub place_text : ℕ → List ℕ
place_text hash = codes "hash " ++ decimal hash ++ codes ", bucket " ++ decimal (bucket head_bits hash) ++ codes ", tag " ++ decimal (tag head_bits hash)

-- a call, by the text of the board's keys and values and the hash of its keys
module _ {K V : Type 0} (key_text : K → List ℕ) (value_text : V → List ℕ) (digest : K → Hash) where
  abbrev pub task_text : Task K V → List ℕ
  task_text t = codes " begins " ++ operation t.operation ++ codes ": " ++ key_text t.key ++ codes ", " ++ value_text t.value ++ codes "; " ++ place_text (digest t.key).value

  abbrev pub action_text : Action K V → List ℕ
  action_text (Begin t) = task_text t
  action_text Turn = codes " takes a turn"
  action_text Collect = codes " collects"
  action_text Abandon = codes " abandons"

  abbrev pub call_text : Call K V → List ℕ
  call_text c = codes "session " ++ decimal c.session ++ action_text c.action

abbrev pub message_text : Message → List ℕ
message_text (Berths c) = codes "berth board: " ++ call_text berth_text sailing_text berth_hash c
message_text (Ships c) = codes "ship board: " ++ call_text name_text berth_number_text name_hash c

-- a refusal in words
abbrev pub name_fault_text : NameFault → List ℕ
name_fault_text Empty = codes "a name has no bytes"
name_fault_text Long = codes "a name has more than 12 bytes"

abbrev pub cause_text : Cause → List ℕ
cause_text Missing = codes "a wanted field is missing or empty"
cause_text Strange = codes "a word is none of those allowed, or a number holds a byte other than 0 to 9"
cause_text Large = codes "a number has more than 10 digits, or is above its limit"
cause_text (Name f) = name_fault_text f
cause_text Extra = codes "a field follows the last one wanted"

abbrev pub reason_text : LineFault → List ℕ
reason_text Length = codes "a line has no bytes, or more than 80"
reason_text (Field f) = cause_text f.cause

abbrev pub fault_text : LineFault → List ℕ
fault_text f =
    codes "no," ++ decimal (line_number f) ++ codes "," ++ decimal (line_place f).field ++ codes "," ++ decimal (line_place f).byte
    ++ codes ": " ++ reason_text f

-- what is printed of a line, before its end
abbrev pub result_text : Result Message LineFault → List ℕ
result_text (Ok m) = message_text m
result_text (Err f) = fault_text f

abbrev pub line_text : List ℕ → List ℕ
line_text line = result_text (message_of line)
