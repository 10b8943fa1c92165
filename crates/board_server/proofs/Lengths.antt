-- How long an answer gets.
use Rattle.std.proofs.Common.{ℕ, ◌^◌, ◌<◌, ◌≤◌, length, arith}
use Rattle.std.proofs.lemmas.Fmt.{length-decimal-le}
use Rattle.std.proofs.lemmas.List.{length-append}
use Rattle.lines.specs.declared.fault.Place.{Place}
use Rattle.lines.specs.declared.berths.Sailing.{Sailing}
use Rattle.board_server.specs.Answers.{sailing_text, refusal_text}

pub sailing_short : (v : Sailing) → v.ship < 2 ^ 32 → v.minute < 2 ^ 16 → length (sailing_text v) ≤ 16
sailing_short v h k =
    let s = length-decimal-le 10 v.ship (omega arith) (omega arith) (omega arith) in
    let m = length-decimal-le 5 v.minute (omega arith) (omega arith) (omega arith) in
    simp length-append (omega arith)

pub refusal_short : (n : ℕ) (p : Place) → n < 256 → p.field < 2 ^ 64 → p.byte < 2 ^ 64 → length (refusal_text n p) ≤ 48
refusal_short n p small f b =
    let dn = length-decimal-le 3 n (omega arith) (omega arith) (omega arith) in
    let df = length-decimal-le 20 p.field (omega arith) (omega arith) (omega arith) in
    let db = length-decimal-le 20 p.byte (omega arith) (omega arith) (omega arith) in
    simp length-append (omega arith)
