use Rattle.std.proofs.Common.{arith}
use Rattle.explain.proofs.Lengths.{berth_number_short}
use Rattle.explain.proofs.show.U16Show.show.Goals as goal

pub returns-clause-short : goal.returns-clause-short
returns-clause-short g c = omega (arith, berth_number_short c.args.self (omega arith))
