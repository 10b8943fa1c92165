use Rattle.std.proofs.Common.{arith}
use Rattle.damage.proofs.Buckets.{few}
use Rattle.damage.proofs.round.Round.draw.Goals as goal

pub invariant_of-result-clause-buckets_fit : goal.invariant_of-result-clause-buckets_fit
invariant_of-result-clause-buckets_fit c = few c.below-bits.result (c.below-bits.ensures.within (grind arith))
