use Rattle.std.proofs.Common.{◌≡◌}
use Rattle.index.proofs.Clearing.{cleared}
use Rattle.index.proofs.making.clear_items.Given as goal

abbrev pub invariant-loop-place : goal.invariant-loop-place
invariant-loop-place g l = l.items ≡ cleared 0 l.place l.initial.items
