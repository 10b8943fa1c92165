-- The order of berths is lawful, and alike berths have equal hashes.
use Rattle.std.specs.Prelude.{◌≡◌}
use Rattle.std.proofs.Common.{arith}
use Rattle.std.proofs.lemmas.Bool.Decides.{nat_tests}
use Rattle.std.specs.Cmp.{nat_cmp_total, on_total, then_total}
use Rattle.std.specs.declared.cmp.Ordering.TheVariants.{Equal}
use Rattle.keys.specs.declared.berth.Berth.{Berth}
use Rattle.keys.specs.Berths.{by_berth, berth_hash}
use Rattle.keys.specs.Orders.{Lawful}
use Rattle.keys.specs.TotalOrders.{lawful_total}

pub by_berth_lawful : Lawful by_berth
by_berth_lawful = lawful_total (then_total (on_total (λ (b : Berth). b.harbour) nat_cmp_total) (on_total (λ (b : Berth). b.berth) nat_cmp_total))

pub by_berth_hashed : (a b : Berth) → by_berth a b ≡ Equal → (berth_hash a).value ≡ (berth_hash b).value
by_berth_hashed a b h = grind (arith, nat_tests)
