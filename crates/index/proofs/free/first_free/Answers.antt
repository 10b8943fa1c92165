use Rattle.std.proofs.Common.{sym, ◌∙◌, arith}
use Rattle.std.specs.List.{slice_get}
use Rattle.rules.specs.Free.{is_free_item}
use Rattle.index.proofs.Scans.{scan_next}
use Rattle.index.proofs.free.first_free.Goals as goal

pub loop-step-preserved : goal.loop-step-preserved
loop-step-preserved g c =
    let l = c.loop-step in
    let core = c.args.core.now in
    let s =
    scan_next (λ p. is_free_item core.sessions p (slice_get c.args.items.now p)) core.places c.place_after-place.result l.place l.step l.invariant.0 (omega arith)
    c.place_after-place.ensures (sym c.if-is_free.ensures) in
    (s.0, s.1 ∙ l.invariant.1)
