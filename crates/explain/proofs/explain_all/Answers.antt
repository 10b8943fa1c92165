use Rattle.std.proofs.Common.{ℕ, ◌-◌, ◌^◌, ◌<◌, ◌≤◌, Option, Some, None, IfSome, List, ◌++◌, length, take, sym, refl, ap, ◌∙◌, subst, arith, append-nil}
use Rattle.std.specs.Io.KnownBytes.{Appends, Consumes}
use Rattle.std.proofs.KnownBytes.{Appends-trans, Consumes-trans, Consumes-whole}
use Rattle.std.proofs.lemmas.List.{length-append, length-take}
use Rattle.std.proofs.lemmas.List.Sums.{fold-append}
use Rattle.std.proofs.lemmas.Result.{on_ok_weaker}
use Rattle.explain.specs.Reports.{new_report, fed_byte, fed, said}
use Rattle.explain.proofs.FedLines.{part_written, room_left, all_written}
use Rattle.explain.proofs.explain_all.Goals as goal
use Rattle.explain.proofs.explain_all.Goals.{else-loop-test, then-loop-test+in-Ok+then-count-eq0}

pub loop-preserved : goal.loop-preserved
loop-preserved g c =
    let told = c.loop.invariant.2 in
    let went = c.in_ok-feed.ensures.written in
    let part = take c.in-Ok.count c.read.new.buf in (
      omega arith,
      room_left c.feed.new.report c.in_ok-feed.ensures.little,
      (
        told.0 ++ part,
        Consumes-trans _ _ _ _ _ told.1 c.in-Ok.ensures.bytes.0,
        (
          told.2.0 ++ went.0,
          Appends-trans _ _ _ _ _ told.2.1 went.1,
          part_written told.2.0 went.0 part c.loop.report (fed c.loop.report part) c.feed.new.report refl went.2 ∙ ap (λ s. fed s part) told.2.2 ∙ sym (fold-append fed_byte new_report told.0 part),
        ),
        omega (arith, length-append told.0 part, length-take c.in-Ok.count c.read.new.buf, told.3, c.in-Ok.ensures.bound),
      ),
    )

-- an input from which so much was read is no shorter
no_shorter : (a b : Option (List ℕ)) (bytes : List ℕ) (n : ℕ) (P : List ℕ → Type 0) → Consumes a b bytes → n ≤ length bytes → IfSome a (λ all. length all < n → P all)
no_shorter None b bytes n P read many = tt
no_shorter (Some xs) None bytes n P read many = absurd read
no_shorter (Some xs) (Some ys) bytes n P read many = λ few. absurd (omega (arith, ap length read, length-append bytes ys))

pub returns : goal.returns
returns g c =
    let room = c.loop.invariant.1 in
    let told = c.loop.invariant.2 in
    let old = g.W.Write.contents c.args.out.now in
    let new = g.W.Write.contents c.write_all-2.new.self in
    let input = g.R.Read.remaining c.args.input.now in
    on_ok_weaker c.write_all-2.result (λ last.
    let text = all_written told.2.0 c.loop.report c.finish.new.self (fed new_report told.0) told.2.2 (c.finish.ensures.whole room) in
    let all : Appends old new (said told.0) = subst (Appends old new) text (Appends-trans _ _ _ _ _ told.2.1 (subst (Appends (g.W.Write.contents c.loop.out) new) c.text-2.ensures last)) in
    elim c.loop-test.branch [
      | else-loop-test w ↦ no_shorter input (g.R.Read.remaining c.loop.input) told.0 (2 ^ 64 - 1) (λ bytes. Appends old new (said bytes)) told.1 (omega (arith, told.3))
      | then-loop-test+in-Ok+then-count-eq0 w ↦ (
          let none = w.if-count-eq0.true in
          let read = subst (Consumes input (g.R.Read.remaining w.read.new.self)) (ap (λ n. told.0 ++ take n w.read.new.buf) none ∙ append-nil told.0) (Consumes-trans _ _ _ _ _ told.1 w.in-Ok.ensures.bytes.0) in
          Consumes-whole input _ told.0 (λ bytes. length bytes < 2 ^ 64 - 1 → Appends old new (said bytes)) read (w.in-Ok.ensures.bytes.1 none (omega arith)) (λ few. all)
          )
    ]) c.write_all-2.ensures.bytes
