use Rattle.std.proofs.Common.{arith}
use Rattle.explain.proofs.Lengths.{sailing_short}
use Rattle.explain.proofs.show.SailingShow.show.Goals as goal

pub returns-clause-short : goal.returns-clause-short
returns-clause-short g c = omega (arith, sailing_short c.args.self (omega arith) (omega arith))
