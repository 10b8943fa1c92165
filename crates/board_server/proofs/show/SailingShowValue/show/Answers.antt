use Rattle.std.proofs.Common.{arith}
use Rattle.board_server.proofs.Lengths.{sailing_short}
use Rattle.board_server.proofs.show.SailingShowValue.show.Goals as goal

pub returns-clause-short : goal.returns-clause-short
returns-clause-short c = sailing_short c.args.self (omega arith) (omega arith)
