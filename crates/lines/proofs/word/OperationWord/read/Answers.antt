use Rattle.std.proofs.Common.{rules, arith, codes}
use Rattle.std.proofs.lemmas.Slice.Eq.{text_from_reads}
use Rattle.lines.proofs.word.OperationWord.read.Goals as goal

pub returns-in-find : goal.returns-in-find
returns-in-find c = rw (text_from_reads c.args.bytes.now (codes "find") (omega arith) (search rules)) (search rules)

pub returns-in-insert : goal.returns-in-insert
returns-in-insert c = rw (text_from_reads c.args.bytes.now (codes "insert") (omega arith) (search rules)) (search rules)

pub returns-in-write : goal.returns-in-write
returns-in-write c = rw (text_from_reads c.args.bytes.now (codes "write") (omega arith) (search rules)) (search rules)

pub returns-in-replace : goal.returns-in-replace
returns-in-replace c = rw (text_from_reads c.args.bytes.now (codes "replace") (omega arith) (search rules)) (search rules)

pub returns-in-remove : goal.returns-in-remove
returns-in-remove c = rw (text_from_reads c.args.bytes.now (codes "remove") (omega arith) (search rules)) (search rules)

pub returns-in-point : goal.returns-in-point
returns-in-point c = rw (text_from_reads c.args.bytes.now (codes "point") (omega arith) (search rules)) (search rules)
