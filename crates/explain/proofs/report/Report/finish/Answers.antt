use Rattle.std.proofs.Common.{◌≤◌, length, sym, ap, ◌∙◌, arith, ◌==◌}
use Rattle.std.proofs.lemmas.Bool.Decides.{nat_tests}
use Rattle.explain.specs.declared.report.Report.{Report}
use Rattle.explain.specs.Reports.{counts_told}
use Rattle.explain.proofs.FedLines.{counts_whole, unended, no_line}
use Rattle.explain.proofs.report.Report.finish.Goals as goal
use Rattle.explain.proofs.report.Report.finish.Goals.{then-not-is_empty, else-not-is_empty}

pub returns-clause-whole : goal.returns-clause-whole
returns-clause-whole c = λ room.
    let self = c.args.self.now in
    let left : length self.text ≤ 65024 = grind (arith, nat_tests) in
    let told = λ (few : length c.if-not-is_empty.self.text ≤ 65280). counts_whole c.explain.new.out c.push.new.self c.if-not-is_empty.self few c.explain.ensures.short c.explain.ensures.text c.push.ensures in
    elim c.if-not-is_empty.branch [
      | then-not-is_empty w ↦ (
          let ends = w.end_line.ensures in
          let some = ap (λ l. length l == 0) (sym c.as_bytes.ensures.kept) ∙ sym c.is_empty.ensures ∙ w.if-not-is_empty.true in
          told (omega (arith, ap (λ (r : Report). length r.text) w.self-is, ends.short)) ∙ ap counts_told (unended self c.if-not-is_empty.self some (w.self-is ∙ ends.whole room))
          )
      | else-not-is_empty w ↦ (
          let none = ap (λ l. length l == 0) (sym c.as_bytes.ensures.kept) ∙ sym c.is_empty.ensures ∙ w.if-not-is_empty.false in
          told (omega (arith, ap (λ (r : Report). length r.text) w.self-is)) ∙ ap counts_told (no_line self c.if-not-is_empty.self none w.self-is)
          )
    ]
