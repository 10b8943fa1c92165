-- What follows from the two laws of an order, for every kind: it is total, as the library has it.
use Rattle.std.proofs.Common.{◌≡◌, ◌⊎◌, ◌∙◌, arith}
use Rattle.std.specs.Cmp.{IsTotalOrder, alike_right, tied_back, tied_itself}
use Rattle.std.specs.declared.cmp.Ordering.{Ordering}
use Rattle.std.specs.declared.cmp.Ordering.TheVariants.{Less, Equal}
use Rattle.std.specs.Ordering.{ordering_reverse}
use Rattle.keys.specs.Orders.{Lawful, TotalPreorder}

module _ {K : Type 0} {order : K → K → Ordering} (laws : Lawful order) where
  one_of_three : (a b : K) → (order a b ≡ Less) ⊎ ((order a b ≡ Equal) ⊎ (order b a ≡ Less))
  one_of_three a b = grind (arith, laws.turned)

  before_chained : (a b c : K) → order a b ≡ Less → order b c ≡ Less → order a c ≡ Less
  before_chained a b c h k = grind (arith, laws.turned, laws.chained)

  alike_left : (a b c : K) → order a b ≡ Equal → order a c ≡ order b c
  alike_left a b c h = grind (arith, laws.turned, laws.chained)

  reversed : (a b : K) → order a b ≡ ordering_reverse (order b a)
  reversed a b = grind (arith, laws.turned)

  pub total_order : IsTotalOrder order
  total_order = record { antisymm = reversed; trans = before_chained; congr = alike_left }

  pub total_preorder : TotalPreorder order
  total_preorder = record {
    alike_itself = tied_itself total_order;
    alike_turned = tied_back total_order;
    alike_chained = λ a b c h k. alike_left a b c h ∙ k;
    before_chained = before_chained;
    one_of_three = one_of_three;
    alike_left = alike_left;
    alike_right = alike_right total_order;
  }
