-- The order of strings of bytes, and so that of names, is lawful, and alike names have equal hashes.
use Rattle.std.specs.Prelude.{◌≡◌, ℕ, List}
use Rattle.std.proofs.Common.{ap}
use Rattle.std.specs.Cmp.{on_total}
use Rattle.std.specs.Cmp.Lexicographic.{slice_cmp, nat_list_cmp_total}
use Rattle.std.specs.FinMap.{nat_cmp-IsAntisymmetric, slice_cmp-IsAntisymmetric}
use Rattle.std.specs.declared.cmp.Ordering.TheVariants.{Equal}
use Rattle.std.specs.Ordering.{nat_cmp}
use Rattle.keys.specs.declared.name.Name.{Name}
use Rattle.keys.specs.Bytes.{bytes_hash}
use Rattle.keys.specs.Names.{by_name, name_hash, used}
use Rattle.keys.specs.Orders.{Lawful}
use Rattle.keys.specs.TotalOrders.{lawful_total}

pub by_bytes_lawful : Lawful (slice_cmp nat_cmp)
by_bytes_lawful = lawful_total nat_list_cmp_total

-- strings that are alike are the same
pub by_bytes_same : (xs ys : List ℕ) → slice_cmp nat_cmp xs ys ≡ Equal → xs ≡ ys
by_bytes_same = slice_cmp-IsAntisymmetric nat_cmp-IsAntisymmetric

pub by_name_lawful : Lawful by_name
by_name_lawful = lawful_total (on_total used nat_list_cmp_total)

-- alike names have the same bytes in use
pub by_name_hashed : (a b : Name) → by_name a b ≡ Equal → (name_hash a).value ≡ (name_hash b).value
by_name_hashed a b h = ap (λ bs. (bytes_hash bs).value) (by_bytes_same (used a) (used b) h)
