use Rattle.std.proofs.Common.{◌≡◌, ◌-◌, ◌≤◌, ◌<◌, true, length, take, get_or}
use Rattle.memchr.specs.Find.{is_byte, places_between}
use Rattle.board_server.specs.Streams.{is_end, fed}
use Rattle.board_server.proofs.stream.Stream.take_in.Given as goal

-- the bytes taken have come in, and the iterator is at the line ends behind them; they end a line
abbrev pub invariant-loop-end : goal.invariant-loop-end
invariant-loop-end l =
    (l.taken ≤ length l.bytes) × (l.self ≡ fed l.initial.self (take l.taken l.bytes)) × (l.end-iterator ≡ places_between (is_byte 10) l.bytes l.taken (length l.bytes)) × (0 < l.taken → is_end (get_or l.bytes (l.taken - 1) 0) ≡ true)
