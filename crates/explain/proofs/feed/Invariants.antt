use Rattle.std.proofs.Common.{◌≡◌, ℕ, false, List, length}
use Rattle.std.specs.Io.KnownBytes.{Appends}
use Rattle.explain.specs.Reports.{is_full, fed, preceded}
use Rattle.explain.proofs.feed.Given as goal

-- fed what is left, what was written and what the report has come to the same as all
abbrev pub invariant-loop-end : goal.invariant-loop-end
invariant-loop-end g l =
    (is_full l.report ≡ false) × ((bytes : List ℕ) × Appends (g.W.Write.contents l.fn.out) (g.W.Write.contents l.out) bytes × (fed (preceded bytes l.report) l.rest ≡ fed l.fn.report l.bytes))

abbrev pub decreases-loop-end : goal.decreases-loop-end
decreases-loop-end g l = length l.rest
