-- How long what is said of a line gets.
use Rattle.std.proofs.Common.{ℕ, ◌+◌, ◌*◌, ◌/◌, ◌%◌, ◌^◌, ◌<◌, ◌≤◌, min, true, false, cond, List, [], ◌∷◌, length, arith}
use Rattle.std.specs.List.{flat_map}
use Rattle.std.proofs.lemmas.Fmt.{length-decimal-le}
use Rattle.std.proofs.lemmas.List.{length-append, length-take}
use Rattle.keys.specs.declared.berth.Berth.{Berth}
use Rattle.keys.specs.declared.name.Name.{Name}
use Rattle.keys.specs.Names.{used}
use Rattle.lines.specs.declared.berths.Sailing.{Sailing}
use Rattle.lines.specs.declared.fault.LineFault.{LineFault}
use Rattle.lines.specs.Faults.{line_number, line_place}
use Rattle.explain.specs.declared.tally.Tally.{Tally}
use Rattle.explain.specs.Explained.{is_plain, hex_digit, byte_text, berth_text, sailing_text, name_text, berth_number_text, place_text, reason_text, fault_text}
use Rattle.explain.specs.Tallies.{tally_text}

pub berth_short : (k : Berth) → k.harbour < 2 ^ 16 → k.berth < 2 ^ 16 → length (berth_text k) ≤ 26
berth_short k h b =
    let harbour = length-decimal-le 5 k.harbour (omega arith) (omega arith) (omega arith) in
    let berth = length-decimal-le 5 k.berth (omega arith) (omega arith) (omega arith) in
    simp length-append (omega arith)

pub sailing_short : (v : Sailing) → v.ship < 2 ^ 32 → v.minute < 2 ^ 16 → length (sailing_text v) ≤ 29
sailing_short v s m =
    let ship = length-decimal-le 10 v.ship (omega arith) (omega arith) (omega arith) in
    let minute = length-decimal-le 5 v.minute (omega arith) (omega arith) (omega arith) in
    simp length-append (omega arith)

pub berth_number_short : (v : ℕ) → v < 2 ^ 16 → length (berth_number_text v) ≤ 11
berth_number_short v h =
    let number = length-decimal-le 5 v (omega arith) (omega arith) (omega arith) in simp length-append (omega arith)

byte_short : (b : ℕ) → length (byte_text b) ≤ 4
byte_short b = elim (is_plain b) as (λ v. length (cond v (b ∷ []) (92 ∷ 120 ∷ hex_digit (b / 16) ∷ hex_digit (b % 16) ∷ [])) ≤ 4) [ true ↦ omega arith | false ↦ omega arith ]

bytes_short : (bs : List ℕ) → length (flat_map byte_text bs) ≤ 4 * length bs
bytes_short [] = omega arith
bytes_short (b ∷ bs) = omega (arith, length-append (byte_text b) (flat_map byte_text bs), byte_short b, bytes_short bs)

pub name_short : (k : Name) → length (name_text k) ≤ 53
name_short k =
    let bytes = bytes_short (used k) in
    let few = length-take (min k.count 12) k.bytes in
    simp length-append (omega arith)

pub place_short : (hash : ℕ) → hash < 2 ^ 16 → length (place_text hash) ≤ 35
place_short hash h =
    let number = length-decimal-le 5 hash (omega arith) (omega arith) (omega arith) in
    let bucket = length-decimal-le 5 (hash / 4096) (omega arith) (omega arith) (omega arith) in
    let tag = length-decimal-le 5 (hash % 4096) (omega arith) (omega arith) (omega arith) in
    simp length-append (omega arith)

pub fault_short : (f : LineFault) → line_number f < 2 ^ 8 → (line_place f).field < 2 ^ 64 → (line_place f).byte < 2 ^ 64 → length (reason_text f) ≤ 75 → length (fault_text f) ≤ 125
fault_short f n p b reason =
    let number = length-decimal-le 3 (line_number f) (omega arith) (omega arith) (omega arith) in
    let field = length-decimal-le 20 (line_place f).field (omega arith) (omega arith) (omega arith) in
    let byte = length-decimal-le 20 (line_place f).byte (omega arith) (omega arith) (omega arith) in
    simp length-append (omega arith)

pub tally_short : (t : Tally) → t.accepted < 2 ^ 64 → t.refused < 2 ^ 64 → length (tally_text t) ≤ 87
tally_short t a r =
    let sum = length-decimal-le 20 (min (t.accepted + t.refused) 18446744073709551615) (omega arith) (omega arith) (omega arith) in
    let accepted = length-decimal-le 20 t.accepted (omega arith) (omega arith) (omega arith) in
    let refused = length-decimal-le 20 t.refused (omega arith) (omega arith) (omega arith) in
    simp length-append (omega arith)
