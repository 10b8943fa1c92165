use Rattle.std.proofs.Common.{◌≡◌, vec_items, rules}
use Rattle.std.specs.Vec.{with_items}
use Rattle.rules.proofs.KindLaws.{lawful_kind}
use Rattle.rules.specs.RunLaw.{Starts}
use Rattle.rules.specs.States.{state}
use Rattle.board_server.specs.BoardIndexes.{new_state}
use Rattle.board_server.proofs.LentTables.{new_starts}
use Rattle.board_server.proofs.Sounding.{sound_new}
use Rattle.board_server.proofs.board_index.BoardIndex.new.Goals as goal
use Rattle.board_server.proofs.board_index.BoardIndex.new.Goals.{After-make}

made : (g : _) (c : After-make g) → state c.make.new.self.core (vec_items (with_items c.in_ok-heads.heads c.make.new.heads)) (vec_items (with_items c.in_ok-items.items c.make.new.items)) (vec_items c.in_ok-requests.requests) ≡ new_state c.args.key c.args.value
made g c = search rules

starts : (g : _) (c : After-make g) → Starts g.B.Key.Key.order g.B.Key.Key.digest (new_state c.args.key c.args.value)
starts g c =
    let kind = lawful_kind g.met.B.Key.Key.turned g.met.B.Key.Key.chained g.met.B.Key.Key.hashed in
    new_starts g.B.Key.Key.order g.B.Key.Key.digest kind c.args.key c.args.value

pub invariant_of-result : goal.invariant_of-result
invariant_of-result g c =
    let at = (goal.at.invariant_of-result g c).After-make in
    record { sound = rw (made g at) (sound_new g.B.Key.Key.order g.B.Key.Key.digest _ (starts g at)) }

pub returns-clause-law : goal.returns-clause-law
returns-clause-law g c = rw (made g (goal.at.returns-clause-law g c).After-make) (starts g (goal.at.returns-clause-law g c).After-make)
