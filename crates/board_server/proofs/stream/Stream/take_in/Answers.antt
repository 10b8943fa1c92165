use Rattle.std.proofs.Common.{◌≡◌, ◌+◌, ◌-◌, ◌<◌, length, take, drop, get_or, sym, ap, ◌∙◌, arith}
use Rattle.std.proofs.lemmas.List.{length-take, length-drop}
use Rattle.memchr.specs.Find.{is_byte}
use Rattle.board_server.specs.Served.{boards_of}
use Rattle.board_server.specs.Streams.{is_end, streamed, fed}
use Rattle.board_server.proofs.FedBytes.{inside_part, with_end, fed_on, fed_part}
use Rattle.board_server.proofs.LinePlaces.{Leads, places_lead, places_none}
use Rattle.board_server.proofs.stream.Stream.take_in.Goals as goal
use Rattle.board_server.proofs.stream.Stream.take_in.Goals.{In-Some}

-- the place that the iterator gave is where the next line ends
leads : (c : In-Some) → Leads (is_byte 10) c.args.bytes.now c.loop-end.taken (length c.args.bytes.now) c.in-Some.end c.next.new.self
leads c =
    places_lead (is_byte 10) c.args.bytes.now c.loop-end.taken (length c.args.bytes.now) c.in-Some.end c.next.new.self c.loop-end.invariant.0 (sym c.loop-end.invariant.2 ∙ c.in-Some.ensures.steps)

pub slice_bounds-end_line-count : goal.slice_bounds-end_line-count
slice_bounds-end_line-count c = omega (arith, (leads (goal.at.slice_bounds-end_line-count c).In-Some).low)

pub slice_bounds-end_line-start : goal.slice_bounds-end_line-start
slice_bounds-end_line-start c = omega (arith, (leads (goal.at.slice_bounds-end_line-start c).In-Some).low)

pub slice_bounds-end_line-end : goal.slice_bounds-end_line-end
slice_bounds-end_line-end c = omega (arith, (leads (goal.at.slice_bounds-end_line-end c).In-Some).high)

pub end_line-requires-clause-inside : goal.end_line-requires-clause-inside
end_line-requires-clause-inside c =
    let lead = leads (goal.at.end_line-requires-clause-inside c).In-Some in
    inside_part c.args.bytes.now c.loop-end.taken c.in-Some.end lead.low lead.before

pub loop-end-preserved : goal.loop-end-preserved
loop-end-preserved c =
    let lead = leads (goal.at.loop-end-preserved c).In-Some in
    let bytes = c.args.bytes.now in
    let last : (c.in-Some.end + 1) - 1 ≡ c.in-Some.end = omega arith in
    let line = c.end_line.ensures ∙ ap (fed c.loop-end.self) (with_end bytes c.loop-end.taken c.in-Some.end lead.low lead.high lead.here) in
    (omega (arith, lead.high), fed_on bytes c.loop-end.taken _ (omega (arith, lead.low)) c.args.self.now c.loop-end.self _ c.loop-end.invariant.1 line, lead.rest, λ _. ap (λ k. is_end (get_or bytes k 0)) last ∙ lead.here)

pub returns-then-room-clause-fed : goal.returns-then-room-clause-fed
returns-then-room-clause-fed c =
    let bytes = c.args.bytes.now in
    let taken = c.loop-end.taken in
    let self = c.self.inside in
    let none = places_none (is_byte 10) bytes taken (length bytes) c.loop-end.invariant.0 (sym c.loop-end.invariant.2 ∙ c.in-None.ensures.steps.0) in
    let inside = inside_part bytes taken (length bytes) c.loop-end.invariant.0 none in
    let part = take (length bytes - taken) (drop taken bytes) in
    let some : 0 < length part = omega (arith, length-take (length bytes - taken) (drop taken bytes), length-drop taken bytes, c.if-taken-bytes.true) in
    let rest = ap (λ l. streamed (boards_of self.server) l self.text) c.push_bytes.ensures ∙ fed_part (boards_of self.server) self.text self.line part some inside ∙ ap (λ s. fed s part) c.self.view_is in
    fed_on bytes taken (length bytes) c.loop-end.invariant.0 c.args.self.now c.loop-end.self _ c.loop-end.invariant.1 rest
