use Rattle.std.proofs.Common.{◌≡◌, ℕ, ◌<◌, ◌++◌, length, take, drop, ◌∙◌, subst, arith}
use Rattle.rules.specs.States.{state}
use Rattle.rules.specs.Steps.{played}
use Rattle.index.proofs.Playing.{played_after, played_replies}
use Rattle.index.proofs.record.Record.play.Goals as goal

pub loop-i-preserved : goal.loop-i-preserved
loop-i-preserved g c =
    let l = c.loop-i in
    let order = g.K.Key.order in
    let digest = g.K.Key.digest in
    let start = state c.args.self.now.core c.args.heads.now c.args.items.now c.args.requests.now in
    let before = state l.self.core l.heads l.items l.requests in
    let done = c.call_step-reply in
    let after = state done.new.self.core done.new.heads done.new.items done.new.requests in
    let cs = c.args.calls.now in
    let within : l.i < length cs = omega (arith, c.min-count.ensures) in
    let room : l.i < length c.args.replies.now = omega (arith, c.min-count.ensures) in
    let call = c.index-calls-i.result in (
      c.put_element.ensures ∙ played_replies order digest start before cs l.i call done.result after within c.index-calls-i.is l.invariant.1 done.ensures c.args.replies.now l.replies room l.invariant.0,
      played_after order digest start before cs l.i call done.result after within c.index-calls-i.is l.invariant.1 done.ensures,
    )

pub returns : goal.returns
returns g c =
    let l = c.loop-i in
    let start = state c.args.self.now.core c.args.heads.now c.args.items.now c.args.requests.now in
    let all : l.i ≡ c.min-count.result = omega arith in
    record {
      count = c.min-count.ensures;
      replies = subst (λ (n : ℕ). l.replies ≡ (played g.K.Key.order g.K.Key.digest start (take n c.args.calls.now)).0 ++ drop n c.args.replies.now) all l.invariant.0;
      after = subst (λ (n : ℕ). state l.self.core l.heads l.items l.requests ≡ (played g.K.Key.order g.K.Key.digest start (take n c.args.calls.now)).1) all l.invariant.1;
    }
