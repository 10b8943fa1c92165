use Rattle.std.proofs.Common.{◌∙◌, arith}
use Rattle.index.proofs.Clearing.{cleared_more, cleared_all}
use Rattle.index.proofs.making.clear_items.Goals as goal

pub loop-place-preserved : goal.loop-place-preserved
loop-place-preserved g c =
    let l = c.loop-place in
    cleared_more l.place l.items c.args.items.now c.index-items-place.result l.invariant (omega arith)

pub returns : goal.returns
returns g c = c.loop-place.invariant ∙ cleared_all c.loop-place.place c.args.items.now (omega arith)
