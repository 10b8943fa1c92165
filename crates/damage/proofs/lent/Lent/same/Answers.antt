use Rattle.std.proofs.Common.{rules}
use Rattle.std.proofs.lemmas.Slice.Eq.{slice_eq-Decides}
use Rattle.damage.proofs.lent.Lent.same.Goals as goal

pub returns-then-same_items : goal.returns-then-same_items
returns-then-same_items c =
    let requests = slice_eq-Decides (λ a b. search rules) c.args.self.now.requests c.args.other.now.requests _ c.eq-then-same_items.ensures in
    grind (rules, requests)
