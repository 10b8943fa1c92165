use Rattle.std.proofs.Common.{rules, arith, codes}
use Rattle.std.proofs.lemmas.Slice.Eq.{text_from_reads}
use Rattle.lines.proofs.word.VerbWord.read.Goals as goal

pub returns-in-begin : goal.returns-in-begin
returns-in-begin c = rw (text_from_reads c.args.bytes.now (codes "begin") (omega arith) (search rules)) (search rules)

pub returns-in-collect : goal.returns-in-collect
returns-in-collect c = rw (text_from_reads c.args.bytes.now (codes "collect") (omega arith) (search rules)) (search rules)

pub returns-in-abandon : goal.returns-in-abandon
returns-in-abandon c = rw (text_from_reads c.args.bytes.now (codes "abandon") (omega arith) (search rules)) (search rules)
