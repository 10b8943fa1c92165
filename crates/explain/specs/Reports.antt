-- What is said of the lines so far.
use Rattle.std.specs.Prelude.{◌≡◌, ℕ, Bool, cond, List, [], ◌∷◌, ◌++◌, length, fold, is_ok, Option, ◌==◌, nat_lt, nat_le}
use Rattle.std.specs.Io.KnownBytes.{Appends}
use Rattle.lines.specs.Boards.{message_of}
use Rattle.text.specs.Kept.{added}
use Rattle.explain.specs.declared.report.Report.{Report}
use Rattle.explain.specs.declared.tally.Tally.{Tally}
use Rattle.explain.specs.Explained.{line_text}
use Rattle.explain.specs.Tallies.{tally, counted, tally_text}

abbrev pub report : List ℕ → List ℕ → Tally → Report
report line text t = record { line = line; text = text; tally = t }

abbrev pub new_report : Report
new_report = report [] [] (tally 0 0)

-- more of the text, on a line of its own
abbrev pub with_line : List ℕ → List ℕ → List ℕ
with_line text more = added 65536 text (more ++ 10 ∷ [])

-- the text is to be written out before more is said
abbrev pub is_full : Report → Bool
is_full r = nat_lt 65024 (length r.text)

-- there is as much text as goes out before more of the input is awaited
abbrev pub is_due : Report → Bool
is_due r = nat_le 8192 (length r.text)

-- a line goes on: its first 81 bytes are kept
abbrev pub begun : List ℕ → Report → Report
begun part r = report (added 81 r.line part) r.text r.tally

-- the line whose last part is at hand
abbrev pub whole_line : List ℕ → Report → List ℕ
whole_line part r = cond (length r.line == 0) part (added 81 r.line part)

-- it ends: it is explained and counted
abbrev pub ended : List ℕ → Report → Report
ended part r =
    let line = whole_line part r in report [] (with_line r.text (line_text line)) (counted (is_ok (message_of line)) r.tally)

-- the counts are said
abbrev pub summed : Report → Report
summed r = report r.line (with_line r.text (tally_text r.tally)) r.tally

-- the input ends, and with it a line that lacks its end
abbrev pub finished : Report → Report
finished r = summed (cond (length r.line == 0) r (ended [] r))

-- the line that is kept ends, and what is said of it comes behind the text, whole
abbrev pub line_ended : Report → Report
line_ended r = report [] (r.text ++ (line_text r.line ++ 10 ∷ [])) (counted (is_ok (message_of r.line)) r.tally)

-- byte 10 ends a line
abbrev pub is_end : ℕ → Bool
is_end b = b == 10

-- a byte comes in, and no text is cut: 10 ends the line; of the others the line keeps the first 81
abbrev pub fed_byte : Report → ℕ → Report
fed_byte r b = cond (is_end b) (line_ended r) (begun (b ∷ []) r)

abbrev pub fed : Report → List ℕ → Report
fed r bytes = fold fed_byte r bytes

-- the input ends, and no text is cut
abbrev pub counts_told : Report → Report
counts_told r = report r.line (r.text ++ (tally_text r.tally ++ 10 ∷ [])) r.tally

abbrev pub closed : Report → Report
closed r = counts_told (cond (length r.line == 0) r (line_ended r))

-- all that is said of an input
abbrev pub said : List ℕ → List ℕ
said bytes = (closed (fed new_report bytes)).text

-- these bytes stand before the text
abbrev pub preceded : List ℕ → Report → Report
preceded bytes r = report r.line (bytes ++ r.text) r.tally

-- what a writer holds grew by the first part of a whole report's text, and the other report has the rest
abbrev pub Writes : Option (List ℕ) → Option (List ℕ) → Report → Report → Type 0
Writes old new rest whole = (bytes : List ℕ) × Appends old new bytes × (preceded bytes rest ≡ whole)
