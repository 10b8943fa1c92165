use Rattle.std.proofs.Common.{ap, arith}
use Rattle.lines.specs.declared.fault.Place.{Place}
use Rattle.explain.proofs.Lengths.{fault_short}
use Rattle.explain.proofs.explanation.explain_fault.Goals as goal

pub returns-clause-short : goal.returns-clause-short
returns-clause-short g c =
    let place = c.place-place.ensures in
    fault_short c.args.fault (omega (arith, c.number.ensures)) (omega (arith, ap (λ (p : Place). p.field) place)) (omega (arith, ap (λ (p : Place). p.byte) place)) c.reason_words.ensures.short
