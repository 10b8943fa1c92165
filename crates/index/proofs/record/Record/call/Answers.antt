use Rattle.std.proofs.Common.{sym}
use Rattle.rules.proofs.KindLaws.{lawful_kind}
use Rattle.rules.proofs.LawOfRuns.{step_law}
use Rattle.index.proofs.record.Record.call.Goals as goal

pub returns : goal.returns
returns g c =
    let kind = lawful_kind g.met.K.Key.turned g.met.K.Key.chained g.met.K.Key.hashed in
    record {
      step = c.call_step.ensures;
      law = step_law g.K.Key.order g.K.Key.digest kind _ _ (record { call = c.args.call; reply = c.call_step.result }) (sym c.call_step.ensures);
    }
