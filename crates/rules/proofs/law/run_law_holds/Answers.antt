use Rattle.rules.proofs.KindLaws.{lawful_kind}
use Rattle.rules.proofs.LawOfRuns.{run_law}
use Rattle.rules.proofs.law.run_law_holds.Goals as goal

pub returns : goal.returns
returns g c = run_law g.K.Key.order g.K.Key.digest (lawful_kind g.met.K.Key.turned g.met.K.Key.chained g.met.K.Key.hashed)
