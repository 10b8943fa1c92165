use Rattle.std.proofs.Common.{◌≡◌, true, sym, subst}
use Rattle.tables.specs.declared.record.Core.{Core}
use Rattle.index.specs.Within.{is_within}
use Rattle.index.proofs.Keeping.{begin_within}
use Rattle.index.proofs.record.Record.begin_step.Goals as goal

pub invariant_of-self : goal.invariant_of-self
invariant_of-self g c =
    let self = c.args.self.now in
    let kept = begin_within self.core c.args.items.now c.args.session c.args.task.operation c.in_ok-job.job self.within c.in_ok-seat.ensures.made (sym c.in_ok-job.ensures) in
    record { within = subst (λ (x : Core). is_within x ≡ true) (sym c.take_up.ensures.core) kept }
