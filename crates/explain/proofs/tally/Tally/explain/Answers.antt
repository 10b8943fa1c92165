use Rattle.std.proofs.Common.{arith}
use Rattle.text.proofs.Adding.{added_twice}
use Rattle.explain.proofs.Lengths.{tally_short}
use Rattle.explain.proofs.tally.Tally.explain.Goals as goal

pub returns-clause-text : goal.returns-clause-text
returns-clause-text g c =
    rw (c.push_bytes-3.ensures, c.push_number-3.ensures, c.push_bytes-2.ensures, c.push_number-2.ensures, c.push_bytes.ensures, c.push_number.ensures, c.saturating_add.ensures) (simp added_twice)

pub returns-clause-short : goal.returns-clause-short
returns-clause-short g c = tally_short c.args.self (omega arith) (omega arith)
