use Rattle.std.proofs.Common.{◌≡◌, ◌++◌, take, drop}
use Rattle.rules.specs.States.{state}
use Rattle.rules.specs.Steps.{played}
use Rattle.index.proofs.record.Record.play.Given as goal

-- the first i calls are done, and their replies handed back
abbrev pub invariant-loop-i : goal.invariant-loop-i
invariant-loop-i g l =
    (l.replies ≡ (played g.K.Key.order g.K.Key.digest (state l.initial.self.core l.initial.heads l.initial.items l.initial.requests) (take l.i l.calls)).0 ++ drop l.i l.initial.replies)
    × (state l.self.core l.heads l.items l.requests ≡ (played g.K.Key.order g.K.Key.digest (state l.initial.self.core l.initial.heads l.initial.items l.initial.requests) (take l.i l.calls)).1)
