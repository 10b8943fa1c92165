use Rattle.std.proofs.Common.{◌-◌, length, take, drop, refl, ap, ◌∙◌, arith}
use Rattle.board_server.specs.Streams.{fed}
use Rattle.board_server.proofs.FedBytes.{fed_further, fewer, left_on}
use Rattle.boards.proofs.pass.Goals as goal

pub loop-rest-preserved : goal.loop-rest-preserved
loop-rest-preserved g c =
    let bytes = c.args.bytes.now in
    let rest = c.loop-rest.rest.now in
    let count = c.feed-count.result in
    let after = take (length rest - count) (drop count rest) in
    let within = c.loop-rest.invariant.0 in
    let here = c.loop-rest.invariant.1 in (
      omega (arith, fewer bytes rest after count within here (omega arith) refl),
      left_on bytes rest after count within here (omega arith) refl,
      fed_further bytes rest after count within here (omega arith) refl c.args.stream.now c.loop-rest.stream _ c.loop-rest.invariant.2 (c.feed-count.ensures.fed ∙ ap (λ s. fed s (take count rest)) c.clear.ensures),
    )
