-- What a line is answered, and what it leaves of the two boards.
use Rattle.std.specs.Prelude.{ℕ, List, Ok, Err, codes, decimal, Result}
use Rattle.calls.specs.declared.fault.IndexFault.{IndexFault}
use Rattle.calls.specs.declared.reply.Reply.{Reply}
use Rattle.keys.specs.declared.berth.Berth.{Berth}
use Rattle.keys.specs.declared.name.Name.{Name}
use Rattle.keys.specs.Berths.{by_berth, berth_hash}
use Rattle.keys.specs.Names.{by_name, name_hash, kept}
use Rattle.lines.specs.declared.berths.Sailing.{Sailing}
use Rattle.lines.specs.declared.fault.LineFault.{LineFault}
use Rattle.lines.specs.declared.message.Message.{Message}
use Rattle.lines.specs.declared.message.Message.TheVariants as message
use Rattle.lines.specs.Boards.{message_of}
use Rattle.rules.specs.RunLaw.{GoesOn}
use Rattle.rules.specs.States.{State, Outcome}
use Rattle.rules.specs.Steps.{step}
use Rattle.board_server.specs.declared.fault.BoardFault.{BoardFault}
use Rattle.board_server.specs.declared.fault.BoardFault.TheVariants.{Line, Index}
use Rattle.board_server.specs.declared.answer.Answer.{Answer}
use Rattle.board_server.specs.declared.answer.Answer.TheVariants.{Berths, Ships}
use Rattle.board_server.specs.declared.server.Server.{Server}
use Rattle.board_server.specs.Answers.{appended, sailing_text, reply_text, fault_text}
use Rattle.board_server.specs.BoardIndexes.{state_of, new_state}
use Rattle.board_server.specs.Soundness.{IsSound}

-- the states of the two boards
pub record Boards : Type 0 where
  pub berths : State Berth Sailing
  pub ships : State Name ℕ

abbrev pub boards : State Berth Sailing → State Name ℕ → Boards
boards b s = record { berths = b; ships = s }

abbrev pub boards_of : Server → Boards
boards_of s = boards (state_of s.berths) (state_of s.ships)

-- both made new; the keys and values that fill their tables stand in no ring
abbrev pub new_boards : Boards
new_boards = boards (new_state (record { harbour = 0; berth = 0 }) (record { ship = 0; minute = 0 })) (new_state (kept (codes "-")) 0)

-- the fault of the index goes up whole inside the board's
abbrev pub in_board : {V : Type 0} → (Reply V → Answer) → Result (Reply V) IndexFault → Result Answer BoardFault
in_board which (Ok r) = Ok (which r)
in_board which (Err f) = Err (Index f)

abbrev pub on_berths : Outcome (Reply Sailing) Berth Sailing → Boards → Result Answer BoardFault × Boards
on_berths done b = (in_board Berths done.0, boards done.1 b.ships)

abbrev pub on_ships : Outcome (Reply ℕ) Name ℕ → Boards → Result Answer BoardFault × Boards
on_ships done b = (in_board Ships done.0, boards b.berths done.1)

-- a message is a step of its board; a refused line changes neither
abbrev pub served_by : Result Message LineFault → Boards → Result Answer BoardFault × Boards
served_by (Ok (message.Berths c)) b = on_berths (step by_berth berth_hash b.berths c) b
served_by (Ok (message.Ships c)) b = on_ships (step by_name name_hash b.ships c) b
served_by (Err f) b = (Err (Line f), b)

abbrev pub board_text : Answer → List ℕ
board_text (Berths r) = reply_text sailing_text r
board_text (Ships r) = reply_text decimal r

abbrev pub answer_text : Result Answer BoardFault → List ℕ
answer_text (Ok a) = board_text a
answer_text (Err f) = fault_text f

abbrev pub served : List ℕ → Boards → List ℕ × Boards
served line b = let done = served_by (message_of line) b in (answer_text done.0, done.1)

-- the answer comes behind a text
abbrev pub answered : List ℕ → List ℕ → Boards → List ℕ × Boards
answered text line b = let done = served line b in (appended text done.0, done.1)

-- each board's state was reached by a run, and is sound
pub record Sounds (b : Boards) : Type 0 where
  pub berths : IsSound by_berth berth_hash b.berths
  pub ships : IsSound by_name name_hash b.ships

-- the run law at a line: every run of the board that it asks goes on with the call
abbrev pub LawAt : Result Message LineFault → Boards → Boards → Type 0
LawAt (Ok (message.Berths c)) b after = GoesOn by_berth berth_hash b.berths (record { call = c; reply = (step by_berth berth_hash b.berths c).0 }) after.berths
LawAt (Ok (message.Ships c)) b after = GoesOn by_name name_hash b.ships (record { call = c; reply = (step by_name name_hash b.ships c).0 }) after.ships
LawAt (Err f) b after = Unit {0}
