-- Name keys: one to twelve bytes, kept with their count.
use Rattle.std.specs.Prelude.{ℕ, ◌-◌, min, cond, List, ◌++◌, length, take, replicate, Ok, Err, Result, ◌==◌, nat_lt}
use Rattle.std.specs.Cmp.Lexicographic.{slice_cmp}
use Rattle.std.specs.declared.cmp.Ordering.{Ordering}
use Rattle.std.specs.Ordering.{nat_cmp}
use Rattle.keys.specs.declared.name.Name.{Name}
use Rattle.keys.specs.declared.name.NameFault.{NameFault}
use Rattle.keys.specs.declared.name.NameFault.TheVariants.{Empty, Long}
use Rattle.keys.specs.Bytes.{bytes_hash}
use Rattle.keys.specs.Hashes.{Hash}

-- the bytes of a name; what lies past its count is no part of it
abbrev pub used : Name → List ℕ
used n = take (min n.count 12) n.bytes

-- the first byte that differs decides, and a name that begins another comes before it
abbrev pub by_name : Name → Name → Ordering
by_name a b = slice_cmp nat_cmp (used a) (used b)

abbrev pub name_hash : Name → Hash
name_hash a = bytes_hash (used a)

-- the name with these bytes, padded by zeros
abbrev pub kept : List ℕ → Name
kept bs = record { bytes = bs ++ replicate (12 - length bs) 0; count = length bs }

-- what the making of a name answers
abbrev pub named : List ℕ → Result Name NameFault
named bs = cond (length bs == 0) (Err Empty) (cond (nat_lt 12 (length bs)) (Err Long) (Ok (kept bs)))

-- the refusal's number
abbrev pub name_refusal : NameFault → ℕ
name_refusal Empty = 5
name_refusal Long = 5
