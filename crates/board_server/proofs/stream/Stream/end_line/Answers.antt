use Rattle.std.proofs.Common.{◌≤◌, [], ◌∷◌, length, ap, sym, ◌∙◌, arith}
use Rattle.text.specs.Kept.{added}
use Rattle.board_server.specs.Answers.{appended}
use Rattle.board_server.specs.Served.{boards_of}
use Rattle.board_server.proofs.FedBytes.{line_fed, cut_whole, no_bytes}
use Rattle.board_server.proofs.stream.Stream.end_line.Goals as goal
use Rattle.board_server.proofs.stream.Stream.end_line.Goals.{then-is_empty, else-is_empty}

pub returns : goal.returns
returns c =
    let self = c.self.inside in
    let last = c.args.last.now in
    let kept : length self.line ≤ 81 = omega (arith, c.as_bytes.ensures.short, ap length c.as_bytes.ensures.kept) in
    elim c.if-is_empty.branch [
      | then-is_empty w ↦ (
          let none = no_bytes self.line c.as_bytes.result.now c.as_bytes.ensures.kept w.if-is_empty.ensures in
          let cut = cut_whole 81 w.min.result last w.min.ensures ∙ ap (λ l. added 81 l last) (sym none) in
          let push = c.push.ensures ∙ ap (λ i. appended i.text (10 ∷ [])) w.self-inside-is in
          rw w.self-inside-is (rw none (line_fed (boards_of self.server) _ self.line self.text _ _ _ last c.args.self.now c.self.view_is kept c.requires.inside c.requires.room cut w.answer.ensures.short w.answer.ensures.exact push))
          )
      | else-is_empty w ↦ (
          let push = c.push.ensures ∙ ap (λ i. appended i.text (10 ∷ [])) w.self-inside-is in
          let line = w.as_bytes-else-is_empty.ensures.kept ∙ w.push_bytes.ensures in
          rw w.self-inside-is (rw w.clear.ensures (line_fed (boards_of self.server) _ self.line self.text _ _ _ last c.args.self.now c.self.view_is kept c.requires.inside c.requires.room line w.answer-else-is_empty.ensures.short w.answer-else-is_empty.ensures.exact push))
          )
    ]
