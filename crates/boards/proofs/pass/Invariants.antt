use Rattle.std.proofs.Common.{◌≡◌, ◌-◌, ◌≤◌, length, take, drop}
use Rattle.board_server.specs.Streams.{fed, cleared}
use Rattle.boards.proofs.pass.Given as goal

-- what is left of the bytes, and that the others have come in
abbrev pub invariant-loop-rest : goal.invariant-loop-rest
invariant-loop-rest g l =
    (length l.rest ≤ length l.bytes) × (l.rest ≡ drop (length l.bytes - length l.rest) l.bytes) × (cleared l.stream ≡ cleared (fed l.initial.stream (take (length l.bytes - length l.rest) l.bytes)))

abbrev pub decreases-loop-rest : goal.decreases-loop-rest
decreases-loop-rest g l = length l.rest
