use Rattle.std.proofs.Common.{◌≡◌, ℕ, ◌+◌, true, false, ◌-◌, ◌<◌, List, [], ◌∷◌, ◌++◌, length, take, drop, sym, ap, ◌∙◌, arith, ◌==◌, eqb-true}
use Rattle.std.proofs.KnownBytes.{Appends-trans}
use Rattle.std.proofs.lemmas.List.{take_rest, drop-drop, nil_from_length}
use Rattle.std.proofs.lemmas.Result.{on_ok_weaker}
use Rattle.std.proofs.lemmas.Bool.Decides.{nat_tests}
use Rattle.explain.specs.Reports.{line_ended, begun, fed}
use Rattle.explain.proofs.FedLines.{line_fed, part_written, fed_part, inside_front, split_there}
use Rattle.explain.proofs.feed.Goals as goal
use Rattle.explain.proofs.feed.Goals.{then-not-is_empty, else-not-is_empty}

some_left : (rest : List ℕ) → (length rest == 0) ≡ false → 0 < length rest
some_left rest e = grind (arith, nat_tests)

none_left : (rest : List ℕ) → (length rest == 0) ≡ true → rest ≡ []
none_left rest e = nil_from_length rest (eqb-true _ _ e)

-- what is behind the byte that ends a line
behind : (rest after : List ℕ) (end : ℕ) → after ≡ drop end rest → take (length after - 1) (drop 1 after) ≡ drop (end + 1) rest
behind rest after end e = take_rest after 1 ∙ ap (drop 1) e ∙ drop-drop 1 end rest

pub loop-end-preserved : goal.loop-end-preserved
loop-end-preserved g c =
    let rest = c.loop-end.rest.now in
    let end = c.in-Some.end in
    let found = c.in-Some.ensures in
    let was = c.loop-end.invariant.1 in
    let went = c.in_ok-make_room.ensures.written in
    let split = split_there rest end found ∙ ap (λ l. (take end rest ++ 10 ∷ []) ++ l) (sym (behind rest _ end c.split_at.ensures.back)) in
    let step = c.end_line.ensures.whole c.loop-end.invariant.0 ∙ ap (λ l. line_ended (begun l c.loop-end.report)) c.split_at.ensures.front in (
      c.in_ok-make_room.ensures.room,
      (was.0 ++ went.0, Appends-trans _ _ _ _ _ was.1 went.1, line_fed was.0 went.0 (take end rest) _ rest c.loop-end.report _ _ (inside_front rest end found) split step went.2 ∙ was.2),
    )

pub returns-clause-written : goal.returns-clause-written
returns-clause-written g c =
    let rest = c.loop-end.rest.now in
    let old = c.loop-end.report in
    let was = c.loop-end.invariant.1 in
    let mid : c.if-not-is_empty.report ≡ fed old rest = elim c.if-not-is_empty.branch [
      | then-not-is_empty w ↦ w.report-is ∙ w.begin_line.ensures ∙ sym (fed_part old rest (some_left rest (sym c.is_empty.ensures ∙ w.if-not-is_empty.true)) c.in_default.ensures)
      | else-not-is_empty w ↦ w.report-is ∙ sym (ap (fed old) (none_left rest (sym c.is_empty.ensures ∙ w.if-not-is_empty.false)))
    ] in
    on_ok_weaker c.send_on.result (λ went. (was.0 ++ went.0, Appends-trans _ _ _ _ _ was.1 went.1, part_written was.0 went.0 rest old c.if-not-is_empty.report _ mid went.2 ∙ was.2)) c.send_on.ensures.written
