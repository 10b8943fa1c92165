use Rattle.std.proofs.Common.{◌≡◌, ℕ, ◌≤◌, false, List, length}
use Rattle.std.specs.Io.KnownBytes.{Consumes}
use Rattle.explain.specs.Reports.{new_report, is_full, fed, Writes}
use Rattle.explain.proofs.explain_all.Given as goal

-- what was read is explained, as far as it is written and as far as the report has it
abbrev pub invariant-loop : goal.invariant-loop
invariant-loop g l =
    (length l.chunk ≡ 65536) × (is_full l.report ≡ false) × ((bytes : List ℕ) × Consumes (g.R.Read.remaining l.fn.input) (g.R.Read.remaining l.input) bytes × Writes (g.W.Write.contents l.fn.out) (g.W.Write.contents l.out) l.report (fed new_report bytes) × (l.counter ≤ length bytes))
