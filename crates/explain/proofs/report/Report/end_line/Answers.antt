use Rattle.std.proofs.Common.{length, sym, ap, ◌∙◌, arith, eqb-true}
use Rattle.lines.specs.Boards.{message_of}
use Rattle.text.specs.Kept.{added}
use Rattle.explain.specs.Explained.{line_text}
use Rattle.explain.specs.Reports.{report, is_full, begun, line_ended}
use Rattle.explain.proofs.FedLines.{ended_whole, line_longer, empty_line, message_cut}
use Rattle.explain.proofs.report.Report.end_line.Goals as goal

pub returns-then-is_empty-clause-whole : goal.returns-then-is_empty-clause-whole
returns-then-is_empty-clause-whole c = λ room.
    let self = c.args.self.now in
    let part = c.args.part.now in
    let none = empty_line self.line c.as_bytes.result.now c.as_bytes.ensures.kept (eqb-true _ _ (sym c.is_empty.ensures ∙ c.if-is_empty.true)) in
    let same = sym (message_cut part) ∙ ap (λ l. message_of (added 81 l part)) (sym none) in
    ap (λ l. report l c.explain.new.text c.explain.new.tally) none ∙ ended_whole part c.explain.new.text c.explain.new.tally (begun part self) room c.explain.ensures.short same c.explain.ensures.text c.explain.ensures.tally

pub returns-then-is_empty-clause-short : goal.returns-then-is_empty-clause-short
returns-then-is_empty-clause-short c =
    omega (arith, ap length c.explain.ensures.text, line_longer c.args.self.now.text (line_text c.args.part.now), c.explain.ensures.short)

pub returns-else-is_empty-clause-whole : goal.returns-else-is_empty-clause-whole
returns-else-is_empty-clause-whole c = λ room.
    let begins = c.begin_line.ensures in
    let explains = c.explain-else-is_empty in
    ap (λ l. report l explains.new.text explains.new.tally) c.clear.ensures
    ∙ ended_whole c.as_bytes-else-is_empty.result.now explains.new.text explains.new.tally c.begin_line.new.self (ap is_full begins ∙ room) explains.ensures.short (ap message_of c.as_bytes-else-is_empty.ensures.kept) explains.ensures.text explains.ensures.tally
    ∙ ap line_ended begins

pub returns-else-is_empty-clause-short : goal.returns-else-is_empty-clause-short
returns-else-is_empty-clause-short c =
    let explains = c.explain-else-is_empty in
    omega (arith, ap length explains.ensures.text, line_longer c.begin_line.new.self.text (line_text c.as_bytes-else-is_empty.result.now), explains.ensures.short, ap (λ r. length r.text) c.begin_line.ensures)
