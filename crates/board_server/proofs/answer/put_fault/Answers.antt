use Rattle.std.proofs.Common.{arith}
use Rattle.board_server.proofs.Lengths.{refusal_short}
use Rattle.board_server.proofs.answer.put_fault.Goals as goal

pub returns-clause-short : goal.returns-clause-short
returns-clause-short c = rw (← c.number.ensures, ← c.place-place.ensures) (refusal_short _ _ (omega arith) (omega arith) (omega arith))
