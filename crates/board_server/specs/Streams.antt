-- Bytes in, answer lines out.
use Rattle.std.specs.Prelude.{ℕ, Bool, cond, List, [], ◌∷◌, ◌++◌, length, fold, ◌==◌, nat_le}
use Rattle.text.specs.Kept.{added}
use Rattle.board_server.specs.Served.{Boards, new_boards, served}

-- byte 10 ends a line
abbrev pub is_end : ℕ → Bool
is_end b = b == 10

-- the boards, the line that is being read, and the answers so far
pub record Streamed : Type 0 where
  pub boards : Boards
  pub line : List ℕ
  pub text : List ℕ

abbrev pub streamed : Boards → List ℕ → List ℕ → Streamed
streamed b line text = record { boards = b; line = line; text = text }

abbrev pub new_stream : Streamed
new_stream = streamed new_boards [] []

abbrev pub with_line : List ℕ → Streamed → Streamed
with_line line s = streamed s.boards line s.text

-- the line ends: its answer is a line of its own
abbrev pub line_ended : Streamed → Streamed
line_ended s = let done = served s.line s.boards in streamed done.1 [] ((s.text ++ done.0) ++ 10 ∷ [])

-- a byte comes in: 10 ends the line; of the others the line keeps the first 81
abbrev pub fed_byte : Streamed → ℕ → Streamed
fed_byte s b = cond (is_end b) (line_ended s) (with_line (added 81 s.line (b ∷ [])) s)

abbrev pub fed : Streamed → List ℕ → Streamed
fed s bytes = fold fed_byte s bytes

-- there is room for one answer more
abbrev pub has_room : Streamed → Bool
has_room s = nat_le (length s.text) 65472

-- the input ends, and with it a line that lacks its byte 10, if there is room for the answer
abbrev pub finished : Streamed → Streamed
finished s = cond (length s.line == 0) s (cond (has_room s) (line_ended s) s)

-- the answers so far are written out
abbrev pub cleared : Streamed → Streamed
cleared s = streamed s.boards s.line []
