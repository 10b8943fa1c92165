use Rattle.std.proofs.Common.{◌≡◌, true, sym, ap, ◌∙◌, subst}
use Rattle.keys.specs.Hashes.{bucket}
use Rattle.tables.specs.declared.record.Core.{Core}
use Rattle.tables.specs.Sessions.{job_of}
use Rattle.rules.specs.Act.{act}
use Rattle.rules.specs.States.{state}
use Rattle.index.specs.Within.{is_within}
use Rattle.index.proofs.Turning.{turn_is}
use Rattle.index.proofs.TurnKeeping.{turn_within}
use Rattle.index.proofs.record.Record.turn_step.Goals as goal

pub invariant_of-self : goal.invariant_of-self
invariant_of-self g c =
    let self = c.args.self.now in
    let st = state self.core c.args.heads.now c.args.items.now c.args.requests.now in
    let seat = c.in_ok-seat.seat in
    let w = c.in-UnderWay.work in
    let r = c.in_ok-request.request in
    let m = c.in_ok-decided.decided in
    let done = c.act.ensures ∙ ap (λ j. act st c.args.session j seat.finds r c.bucket_of.result m) c.job.ensures in
    let kept = turn_within g.K.Key.order g.K.Key.digest st c.args.session c.bucket_of.result seat w r m self.within (sym c.in_ok-seat.ensures.value) c.in-UnderWay.is (sym c.in_ok-decided.ensures) in
    record { within = subst (λ (x : Core). is_within x ≡ true) (sym (ap (λ d. d.1.core) done)) kept }

pub returns : goal.returns
returns g c =
    let self = c.args.self.now in
    let st = state self.core c.args.heads.now c.args.items.now c.args.requests.now in
    let seat = c.in_ok-seat.seat in
    let w = c.in-UnderWay.work in
    let r = c.in_ok-request.request in
    let m = c.in_ok-decided.decided in
    let done =
    c.act.ensures
    ∙ ap (λ j. act st c.args.session j seat.finds r c.bucket_of.result m) c.job.ensures
    ∙ ap (λ b. act st c.args.session (job_of w) seat.finds r b m) (c.bucket_of.ensures ∙ ap (bucket self.core.bits) c.hash.ensures) in
    turn_is g.K.Key.order g.K.Key.digest st c.args.session seat w r m _ (sym c.in_ok-seat.ensures.value) c.in-UnderWay.is (sym c.element_at.ensures ∙ c.in_ok-request.ensures.ok_part) (sym c.in_ok-decided.ensures) done
