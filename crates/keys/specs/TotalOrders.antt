-- Each order that the library calls total keeps the two laws of a lawful order.
use Rattle.std.specs.Prelude.{◌≡◌, refl}
use Rattle.std.proofs.Common.{ap, ◌∙◌}
use Rattle.std.specs.Cmp.{IsTotalOrder, upto}
use Rattle.std.specs.declared.cmp.Ordering.{Ordering}
use Rattle.std.specs.declared.cmp.Ordering.TheVariants.{Less, Equal, Greater}
use Rattle.std.specs.Ordering.{ordering_reverse, is_lt, is_gt}
use Rattle.keys.specs.Orders.{Lawful}

reversed : (o : Ordering) → is_lt (ordering_reverse o) ≡ is_gt o
reversed Less = refl
reversed Equal = refl
reversed Greater = refl

pub lawful_total : {K : Type 0} {order : K → K → Ordering} → IsTotalOrder order → Lawful order
lawful_total {order = order} total = record { turned = λ a b. ap is_lt (total.antisymm a b) ∙ reversed (order b a); chained = upto total }
