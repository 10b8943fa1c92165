use Rattle.std.proofs.Common.{arith}
use Rattle.explain.proofs.Lengths.{place_short}
use Rattle.explain.proofs.explanation.explain_place.Goals as goal

pub returns-clause-short : goal.returns-clause-short
returns-clause-short g c = place_short c.args.hash (omega arith)
