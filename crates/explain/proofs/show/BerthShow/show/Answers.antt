use Rattle.std.proofs.Common.{arith}
use Rattle.explain.proofs.Lengths.{berth_short}
use Rattle.explain.proofs.show.BerthShow.show.Goals as goal

pub returns-clause-short : goal.returns-clause-short
returns-clause-short g c = omega (arith, berth_short c.args.self (omega arith) (omega arith))
