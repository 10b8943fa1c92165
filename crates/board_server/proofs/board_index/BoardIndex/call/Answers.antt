use Rattle.std.proofs.Common.{vec_items, refl, arith}
use Rattle.std.specs.Vec.{with_items}
use Rattle.rules.specs.RunLaw.{GoesOn}
use Rattle.rules.specs.States.{state}
use Rattle.board_server.specs.BoardIndexes.{state_of}
use Rattle.board_server.proofs.LentTables.{come_back, same_state, law_between}
use Rattle.board_server.proofs.Sounding.{sound_after}
use Rattle.board_server.proofs.board_index.BoardIndex.call.Goals as goal
use Rattle.board_server.proofs.board_index.BoardIndex.call.Goals.{After-call}

goes_on : (g : _) (c : After-call g) → GoesOn g.B.Key.Key.order g.B.Key.Key.digest (state_of c.args.self.now) (record { call = c.args.call; reply = c.call.result }) (state c.call.new.self.core (vec_items (with_items c.args.self.now.heads c.call.new.heads)) (vec_items (with_items c.args.self.now.items c.call.new.items)) (vec_items (with_items c.args.self.now.requests c.call.new.requests)))
goes_on g c =
    let self = c.args.self.now in
    let before = same_state {c = self.record.core} refl c.deref_mut.ensures.value c.deref_mut-2.ensures.value c.deref_mut-3.ensures.value in
    let behind = same_state {c = c.call.new.self.core} refl (come_back self.heads c.call.new.heads (omega arith)) (come_back self.items c.call.new.items (omega arith)) (come_back self.requests c.call.new.requests (omega arith)) in
    law_between g.B.Key.Key.order g.B.Key.Key.digest _ before behind c.call.ensures.law

pub invariant_of-self : goal.invariant_of-self
invariant_of-self g c =
    let law = goes_on g (goal.at.invariant_of-self g c).After-call in
    record { sound = sound_after g.B.Key.Key.order g.B.Key.Key.digest _ _ _ c.args.self.now.sound law }

pub returns-clause-law : goal.returns-clause-law
returns-clause-law g c = goes_on g (goal.at.returns-clause-law g c).After-call
