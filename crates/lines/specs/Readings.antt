-- Reading a line field by field, from a place on.
use Rattle.std.specs.Prelude.{◌≡◌, ℕ, ◌+◌, min, Bool, cond, ◌||◌, List, length, Ok, Err, Option, OnOk, Result, ◌==◌, nat_le, nat_lt}
use Rattle.std.specs.Option.{ok_or}
use Rattle.keys.specs.declared.name.Name.{Name as NameKey}
use Rattle.keys.specs.declared.name.NameFault.{NameFault}
use Rattle.keys.specs.Names.{named}
use Rattle.lines.specs.declared.fault.Cause.{Cause}
use Rattle.lines.specs.declared.fault.Cause.TheVariants as cause
use Rattle.lines.specs.declared.fault.FieldFault.{FieldFault}
use Rattle.lines.specs.declared.fault.Place.{Place}
use Rattle.lines.specs.declared.reader.Field.{Field}
use Rattle.lines.specs.declared.reader.Field.TheVariants as field
use Rattle.lines.specs.declared.reader.Kind.{Kind}
use Rattle.lines.specs.declared.reader.Kind.TheVariants.{Word, Digits, Name}
use Rattle.lines.specs.declared.reader.Reader.{Reader}
use Rattle.lines.specs.Faults.{place, fault}
use Rattle.lines.specs.Fields.{field_end, field_bytes, number_of}

-- what a reading gives from a place of a line on, and the place after it
abbrev pub Reading : Type 0 → Type 0
Reading X = List ℕ → Place → Result X FieldFault × Place

-- a result that reads nothing
abbrev pub given : {X : Type 0} → Result X FieldFault → Reading X
given r line p = (r, p)

abbrev pub go_on : {X Y : Type 0} → List ℕ → (X → Reading Y) → Result X FieldFault → Place → Result Y FieldFault × Place
go_on line f (Ok x) p = f x line p
go_on line f (Err e) p = (Err e, p)

-- one reading, and then another by what the first gave; the first fault ends it
abbrev pub and_then : {X Y : Type 0} → Reading X → (X → Reading Y) → Reading Y
and_then m f line p = go_on line f (m line p).0 (m line p).1

-- the line of a reader
abbrev pub text : Reader → List ℕ
text r = r.line.now

-- a read of so many fields: from the place of the next field on it gives what the reading gives, at a fault too; the
-- line stays; and where the read gives something, the fields are counted
pub record Reads {X : Type 0} (reading : Reading X) (fields : ℕ) (old new : Reader) (result : Result X FieldFault) : Type 0 where
  pub value : (result, new.next) ≡ reading (text old) old.next
  pub line : text new ≡ text old
  pub count : OnOk result (new.next.field ≡ old.next.field + fields)

-- a line is read from its first field on
abbrev pub start : Place
start = place 1 0

-- no field begins at byte i, or an empty one
abbrev pub lacks : List ℕ → ℕ → Bool
lacks line i = nat_lt (length line) i || field_end line i == i

-- a field that was read, as a part of its line with its place
pub record Seen : Type 0 where
  pub kind : Kind
  pub bytes : List ℕ
  pub place : Place

abbrev pub seen : Field → Seen
seen (field.Word part) = record { kind = Word; bytes = part.bytes.now; place = part.place }
seen (field.Digits part) = record { kind = Digits; bytes = part.bytes.now; place = part.place }
seen (field.Name part) = record { kind = Name; bytes = part.bytes.now; place = part.place }

abbrev pub seen_in : Result Field FieldFault → Result Seen FieldFault
seen_in (Ok f) = Ok (seen f)
seen_in (Err e) = Err e

-- the next field: refused if it is missing (at the line's end) or empty (where it would begin)
abbrev pub field_in : Kind → Reading Seen
field_in kind line p =
    cond (lacks line p.byte)
    (Err (fault cause.Missing (place p.field (min p.byte (length line)))), p)
    (Ok (record { kind = kind; bytes = field_bytes line p.byte; place = p }), place (p.field + 1) (field_end line p.byte + 1))

-- a result about the bytes of a field, with the field's place at its fault
abbrev pub placed : {X : Type 0} → Place → Result X Cause → Result X FieldFault
placed p (Ok x) = Ok x
placed p (Err c) = Err (fault c p)

-- a name's fault goes up whole inside the field's
abbrev pub name_cause : Result NameKey NameFault → Result NameKey Cause
name_cause (Ok n) = Ok n
name_cause (Err e) = Err (cause.Name e)

-- the number, the word and the name that a field holds; a field of another kind holds none
abbrev pub number_by : ℕ → Kind → List ℕ → Result ℕ Cause
number_by limit Word bs = Err cause.Strange
number_by limit Digits bs = number_of limit bs
number_by limit Name bs = Err cause.Strange

abbrev pub word_by : {W : Type 0} → (List ℕ → Option W) → Kind → List ℕ → Result W Cause
word_by words Word bs = ok_or (words bs) cause.Strange
word_by words Digits bs = Err cause.Strange
word_by words Name bs = Err cause.Strange

abbrev pub name_by : Kind → List ℕ → Result NameKey Cause
name_by Word bs = Err cause.Strange
name_by Digits bs = Err cause.Strange
name_by Name bs = name_cause (named bs)

abbrev pub number_seen : ℕ → Seen → Result ℕ FieldFault
number_seen limit s = placed s.place (number_by limit s.kind s.bytes)

abbrev pub word_seen : {W : Type 0} → (List ℕ → Option W) → Seen → Result W FieldFault
word_seen words s = placed s.place (word_by words s.kind s.bytes)

abbrev pub name_seen : Seen → Result NameKey FieldFault
name_seen s = placed s.place (name_by s.kind s.bytes)

-- a number up to a limit, one of a list of words, and a name, each the next field
abbrev pub number_in : ℕ → Reading ℕ
number_in limit = and_then (field_in Digits) (λ s. given (number_seen limit s))

abbrev pub word_in : {W : Type 0} → (List ℕ → Option W) → Reading W
word_in words = and_then (field_in Word) (λ s. given (word_seen words s))

abbrev pub name_in : Reading NameKey
name_in = and_then (field_in Name) (λ s. given (name_seen s))

-- no field follows
abbrev pub end_in : Reading (Unit {0})
end_in line p = (cond (nat_le p.byte (length line)) (Err (fault cause.Extra p)) (Ok tt), p)
