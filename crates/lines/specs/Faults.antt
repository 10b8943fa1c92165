-- The number of each refusal of a line, and the field and byte that it names.
use Rattle.std.specs.Prelude.{ℕ}
use Rattle.keys.specs.Names.{name_refusal}
use Rattle.lines.specs.declared.fault.Place.{Place}
use Rattle.lines.specs.declared.fault.Cause.{Cause}
use Rattle.lines.specs.declared.fault.Cause.TheVariants.{Missing, Strange, Large, Name, Extra}
use Rattle.lines.specs.declared.fault.FieldFault.{FieldFault}
use Rattle.lines.specs.declared.fault.LineFault.{LineFault}
use Rattle.lines.specs.declared.fault.LineFault.TheVariants.{Length, Field}

abbrev pub place : ℕ → ℕ → Place
place field byte = record { field = field; byte = byte }

abbrev pub fault : Cause → Place → FieldFault
fault cause p = record { cause = cause; place = p }

abbrev pub cause_number : Cause → ℕ
cause_number Missing = 2
cause_number Strange = 3
cause_number Large = 4
cause_number (Name f) = name_refusal f
cause_number Extra = 6

abbrev pub line_number : LineFault → ℕ
line_number Length = 1
line_number (Field f) = cause_number f.cause

-- a line's length has no field
abbrev pub line_place : LineFault → Place
line_place Length = place 0 0
line_place (Field f) = f.place
