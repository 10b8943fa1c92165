-- The fields of a line and what their bytes say.
use Rattle.std.specs.Prelude.{ℕ, ◌+◌, ◌-◌, ◌*◌, Bool, cond, not, ◌&&◌, List, length, take, drop, Ok, Err, fold, Result, ◌==◌, nat_le, nat_lt}
use Rattle.std.specs.List.{list_all, prefix_len}
use Rattle.lines.specs.declared.fault.Cause.{Cause}
use Rattle.lines.specs.declared.fault.Cause.TheVariants.{Strange, Large}

-- a comma is byte 44
abbrev pub is_inside : ℕ → Bool
is_inside b = not (b == 44)

-- where the field that begins at byte i ends: at the next comma, or at the line's end
abbrev pub field_end : List ℕ → ℕ → ℕ
field_end line i = i + prefix_len is_inside (drop i line)

-- the bytes of the field that begins at byte i
abbrev pub field_bytes : List ℕ → ℕ → List ℕ
field_bytes line i = take (field_end line i - i) (drop i line)

-- the digits 0 to 9 are bytes 48 to 57
abbrev pub is_digit : ℕ → Bool
is_digit b = nat_le 48 b && nat_le b 57

abbrev pub all_digits : List ℕ → Bool
all_digits = list_all is_digit

-- the number that digits write
abbrev pub value_of : List ℕ → ℕ
value_of bs = fold (λ v b. 10 * v + (b - 48)) 0 bs

-- the number in a field's bytes: digits alone, at most ten of them, and at most the limit
abbrev pub number_of : ℕ → List ℕ → Result ℕ Cause
number_of limit bs =
    cond (all_digits bs) (cond (nat_lt 10 (length bs)) (Err Large) (cond (nat_lt limit (value_of bs)) (Err Large) (Ok (value_of bs)))) (Err Strange)
