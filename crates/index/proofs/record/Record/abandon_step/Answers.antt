use Rattle.std.proofs.Common.{◌≡◌, true, sym, refl, subst}
use Rattle.tables.specs.declared.record.Core.{Core}
use Rattle.tables.specs.declared.session.Stage.TheVariants.{Idle}
use Rattle.index.specs.Within.{is_within}
use Rattle.index.proofs.Keeping.{stage_within}
use Rattle.index.proofs.record.Record.abandon_step.Goals as goal

pub invariant_of-self : goal.invariant_of-self
invariant_of-self g c =
    let self = c.args.self.now in
    record { within = subst (λ (x : Core). is_within x ≡ true) (sym c.set_stage.ensures) (stage_within self.core c.args.session Idle self.within refl) }
