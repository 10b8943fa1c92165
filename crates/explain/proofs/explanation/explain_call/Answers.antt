use Rattle.std.proofs.Common.{arith}
use Rattle.std.proofs.lemmas.Fmt.{length-decimal-le}
use Rattle.std.proofs.lemmas.List.{length-append}
use Rattle.explain.proofs.explanation.explain_call.Goals as goal

pub returns-clause-short : goal.returns-clause-short
returns-clause-short g c =
    let session = length-decimal-le 3 c.args.call.session (omega arith) (omega arith) (omega arith) in
    let action = c.explain_action.ensures.short in
    simp length-append (omega arith)
