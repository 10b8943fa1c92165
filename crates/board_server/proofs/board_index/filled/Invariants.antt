use Rattle.std.proofs.Common.{◌≡◌, ◌≤◌, replicate, vec_items, vec_len, vec_capacity}
use Rattle.board_server.proofs.board_index.filled.Given as goal

abbrev pub invariant-loop : goal.invariant-loop
invariant-loop g l = (vec_items l.v ≡ replicate l.counter l.x) × (vec_len l.v ≡ l.counter) × (l.n ≤ vec_capacity l.v)
