use Rattle.std.proofs.Common.{◌≡◌, ℕ, ◌||◌, List, [], ◌∷◌, refl, ap, ◌∙◌, rules, tests}
use Rattle.std.specs.List.{list_any}
use Rattle.std.proofs.lemmas.Iterator.{YieldsList-from_slice}
use Rattle.std.proofs.lemmas.Iterator.Search.{any_from_yields_List}
use Rattle.tables.specs.declared.session.Session.{Session}
use Rattle.rules.specs.Free.{stands_on, is_stood_on}
use Rattle.index.proofs.free.is_stood_on.Goals as goal

any_stands : (p : ℕ) (ss : List Session) → list_any (λ s. stands_on p s.stage) ss ≡ is_stood_on p ss
any_stands p [] = refl
any_stands p (s ∷ ss) = ap (λ b. stands_on p s.stage || b) (any_stands p ss)

pub returns : goal.returns
returns c =
    let p = c.args.place in
    let ss = c.args.sessions.now in
    any_from_yields_List (λ s. stands_on p s.stage) _ _ _ c.any.ensures.ran (YieldsList-from_slice ss cc) (λ x b q k. search (rules, tests)) ∙ any_stands p ss
