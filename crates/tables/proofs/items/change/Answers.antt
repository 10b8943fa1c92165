use Rattle.std.proofs.Common.{get_or, rules}
use Rattle.tables.proofs.Changes.{modify-is, modify-past}
use Rattle.tables.proofs.items.change.Goals as goal

pub returns-then-place-table : goal.returns-then-place-table
returns-then-place-table g c = λ f h.
    let was = get_or c.args.table.now c.args.place c.index-table-place.result in
    modify-is f c.args.place c.args.table.now _ c.by.new.arg2 c.if-place-table.true (h was c.by.new.arg2 (search rules))

pub returns-else-place-table : goal.returns-else-place-table
returns-else-place-table g c = λ f h. search (rules, modify-past)
