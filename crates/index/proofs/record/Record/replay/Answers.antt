use Rattle.std.proofs.Common.{take, sym}
use Rattle.rules.proofs.KindLaws.{lawful_kind}
use Rattle.rules.proofs.LawOfRuns.{replay_law}
use Rattle.rules.specs.Making.{make}
use Rattle.rules.specs.States.{state}
use Rattle.index.proofs.Playing.{replay_done}
use Rattle.index.proofs.record.Record.replay.Goals as goal

pub returns : goal.returns
returns g c =
    let kind = lawful_kind g.met.K.Key.turned g.met.K.Key.chained g.met.K.Key.hashed in
    let order = g.K.Key.order in
    let digest = g.K.Key.digest in
    let old = state c.args.self.now.core c.args.heads.now c.args.items.now c.args.requests.now in
    let mid = state c.make_step.new.self.core c.make_step.new.heads c.make_step.new.items c.args.requests.now in
    let after = state c.play.new.self.core c.play.new.heads c.play.new.items c.play.new.requests in
    let n = c.play.result in
    replay_done order digest (make c.args.bits old) c.args.calls.now c.args.replies.now c.play.new.replies n mid after c.in_ok-make_step.ensures
    (record {
      count = c.play.ensures.count;
      own = c.play.ensures.replies;
      reached = c.play.ensures.after;
      law = replay_law order digest kind c.args.bits old mid after (take n c.args.calls.now) (sym c.in_ok-make_step.ensures) (sym c.play.ensures.after);
    })
