use Rattle.rules.proofs.KindLaws.{lawful_kind}
use Rattle.rules.proofs.LawOfRuns.{make_law}
use Rattle.index.proofs.record.Record.make.Goals as goal

pub returns : goal.returns
returns g c =
    let kind = lawful_kind g.met.K.Key.turned g.met.K.Key.chained g.met.K.Key.hashed in
    record {
      step = c.make_step.ensures;
      law = make_law g.K.Key.order g.K.Key.digest kind c.args.bits _ _ _ c.make_step.ensures;
    }
