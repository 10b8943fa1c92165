-- Berth keys: a harbour and a berth, 0 to 65535 each.
use Rattle.std.specs.Prelude.{◌+◌, ◌*◌}
use Rattle.std.specs.declared.cmp.Ordering.{Ordering}
use Rattle.std.specs.Ordering.{ordering_then, nat_cmp}
use Rattle.keys.specs.declared.berth.Berth.{Berth}
use Rattle.keys.specs.Hashes.{Hash, hash16}

-- harbours are compared first, then berths
abbrev pub by_berth : Berth → Berth → Ordering
by_berth a b = ordering_then (nat_cmp a.harbour b.harbour) (nat_cmp a.berth b.berth)

abbrev pub berth_hash : Berth → Hash
berth_hash a = hash16 (40503 * a.berth + a.harbour)
