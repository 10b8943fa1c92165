use Rattle.std.proofs.Common.{sym, ap}
use Rattle.calls.specs.declared.call.Action.TheVariants as action
use Rattle.calls.specs.declared.reply.Reply.TheVariants as reply
use Rattle.rules.specs.RunLaw.{event}
use Rattle.rules.specs.Steps.{as_reply}
use Rattle.rules.proofs.KindLaws.{lawful_kind}
use Rattle.rules.proofs.LawOfRuns.{step_law}
use Rattle.index.proofs.record.Record.abandon.Goals as goal

pub returns : goal.returns
returns g c =
    let kind = lawful_kind g.met.K.Key.turned g.met.K.Key.chained g.met.K.Key.hashed in
    record {
      step = c.abandon_step.ensures;
      law = step_law g.K.Key.order g.K.Key.digest kind _ _ (event c.args.session action.Abandon _) (ap (as_reply (λ _. reply.Abandoned)) (sym c.abandon_step.ensures));
    }
