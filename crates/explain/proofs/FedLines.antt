-- Bytes fed to a report, and lines explained whole.
use Rattle.std.proofs.Common.{◌≡◌, ℕ, suc, ◌+◌, ◌≤◌, ◌<◌, true, false, cond, ◌||◌, Some, None, Err, List, [], ◌∷◌, ◌++◌, length, take, drop, get_or, is_ok, nat_lt, sym, refl, ap, ◌∙◌, arith, ⊎_elim, ◌==◌, append_assoc, append-nil}
use Rattle.std.proofs.lemmas.List.{take_all, get_or-take, length-append, length-take, take-append-drop, drop_more}
use Rattle.std.proofs.lemmas.List.Sums.{fold-append, fold_push}
use Rattle.std.proofs.lemmas.Bool.{cases_lt, cond-true, lt-ltb, or_right, eqb-true}
use Rattle.std.proofs.lemmas.Bool.Decides.{nat_tests}
use Rattle.memchr.specs.Find.{IsFirstByte, is_byte}
use Rattle.lines.specs.Boards.{message_in, in_line, message_of}
use Rattle.lines.specs.Readings.{start}
use Rattle.lines.specs.declared.fault.LineFault.TheVariants.{Length}
use Rattle.text.specs.Kept.{added}
use Rattle.text.proofs.Adding.{added_twice, added_nothing}
use Rattle.explain.specs.declared.report.Report.{Report}
use Rattle.explain.specs.declared.tally.Tally.{Tally}
use Rattle.explain.specs.Explained.{result_text, line_text}
use Rattle.explain.specs.Tallies.{counted, tally_text}
use Rattle.explain.specs.Reports.{report, with_line, is_full, is_due, begun, line_ended, is_end, fed_byte, fed, counts_told, closed, preceded}

-- what fits is added whole
added_whole : (text more : List ℕ) → length text + length more ≤ 65536 → added 65536 text more ≡ text ++ more
unfolding added
added_whole text more h = take_all 65536 (text ++ more) (omega (arith, length-append text more))

added_short : (n : ℕ) (bs more : List ℕ) → length (added n bs more) ≤ n
unfolding added
added_short n bs more = omega (arith, length-take n (bs ++ more))

pub line_whole : (text more : List ℕ) → length text + length more < 65536 → with_line text more ≡ text ++ (more ++ 10 ∷ [])
line_whole text more h = added_whole text (more ++ 10 ∷ []) (omega (arith, length-append more (10 ∷ [])))

-- whether a line is too long shows in its first 81 bytes

too_long : (line : List ℕ) → 80 < length line → message_of line ≡ Err Length
too_long line h = cond-true (length line == 0 || nat_lt 80 (length line)) (Err Length) (in_line (message_in line start).0) (or_right (length line == 0) _ (lt-ltb 80 (length line) h))

pub message_cut : (line : List ℕ) → message_of (added 81 [] line) ≡ message_of line
unfolding added
message_cut line =
    ⊎_elim (λ long. too_long (take 81 line) (omega (arith, length-take 81 line)) ∙ sym (too_long line (omega arith))) (λ short. ap message_of (take_all 81 line short)) (cases_lt 81 (length line))

nothing_cut : (line : List ℕ) → message_of (added 81 line []) ≡ message_of line
unfolding added
nothing_cut line = ap (λ l. message_of (take 81 l)) (append-nil line) ∙ message_cut line

-- a line ends where there is room: it is said whole
pub ended_whole : (line text : List ℕ) (t : Tally) (r : Report) → is_full r ≡ false → length (line_text line) ≤ 255 → message_of line ≡ message_of r.line → text ≡ with_line r.text (line_text line) → t ≡ counted (is_ok (message_of line)) r.tally → report [] text t ≡ line_ended r
ended_whole line text t r room short same told tallied =
    let left : length r.text ≤ 65024 = grind (arith, nat_tests) in
    ap (λ x. report [] x t) (told ∙ line_whole r.text (line_text line) (omega arith))
    ∙ ap (λ x. report [] (r.text ++ (line_text line ++ 10 ∷ [])) x) tallied
    ∙ ap (λ m. report [] (r.text ++ (result_text m ++ 10 ∷ [])) (counted (is_ok m) r.tally)) same

pub line_longer : (text more : List ℕ) → length (with_line text more) ≤ length text + length more + 1
unfolding added
line_longer text more = omega (arith, length-take 65536 (text ++ (more ++ 10 ∷ [])), length-append text (more ++ 10 ∷ []), length-append more (10 ∷ []))

-- the counts are said where there is room
pub counts_whole : (one two : List ℕ) (r : Report) → length r.text ≤ 65280 → length (tally_text r.tally) ≤ 87 → one ≡ added 65536 r.text (tally_text r.tally) → two ≡ added 65536 one (10 ∷ []) → report r.line two r.tally ≡ counts_told r
counts_whole one two r room short told ends =
    ap (λ x. report r.line x r.tally) (ends ∙ ap (λ x. added 65536 x (10 ∷ [])) told ∙ added_twice 65536 r.text (tally_text r.tally) (10 ∷ []) ∙ line_whole r.text (tally_text r.tally) (omega arith))

-- a last line that lacks its end
pub unended : (r s : Report) → (length r.line == 0) ≡ false → s ≡ line_ended (begun [] r) → s ≡ cond (length r.line == 0) r (line_ended r)
unended r s some e =
    e ∙ ap (λ m. report [] (r.text ++ (result_text m ++ 10 ∷ [])) (counted (is_ok m) r.tally)) (nothing_cut r.line) ∙ ap (λ v. cond v r (line_ended r)) (sym some)

pub no_line : (r s : Report) → (length r.line == 0) ≡ true → s ≡ r → s ≡ cond (length r.line == 0) r (line_ended r)
no_line r s none e = e ∙ ap (λ v. cond v r (line_ended r)) (sym none)

pub empty_line : (line seen : List ℕ) → seen ≡ line → length seen ≡ 0 → line ≡ []
empty_line [] seen e none = refl
empty_line (x ∷ xs) seen e none = absurd (omega (arith, ap length e))

-- little text leaves room
pub room_left : (r : Report) → is_due r ≡ false → is_full r ≡ false
room_left r little = grind (arith, nat_tests)

-- none of these bytes ends a line
abbrev pub Inside : List ℕ → Type 0
Inside xs = IsFirstByte (is_byte 10) xs None

module _ (text : List ℕ) (t : Tally) where
  fed_one : (line : List ℕ) (x : ℕ) → ¬ (is_end x ≡ true) → fed_byte (report line text t) x ≡ report (added 81 line (x ∷ [])) text t
  fed_one line x inner = let in_line : is_end x ≡ false = grind (arith, nat_tests) in rw in_line

  fed_more : (line : List ℕ) (x : ℕ) (xs : List ℕ) → Inside (x ∷ xs) → fed (report (added 81 line (x ∷ [])) text t) xs ≡ report (added 81 (added 81 line (x ∷ [])) xs) text t → fed (report line text t) (x ∷ xs) ≡ report (added 81 line (x ∷ xs)) text t
  fed_more line x xs inside rest =
      ap (λ r. fed r xs) (fed_one line x (inside 0 (omega arith) (omega arith))) ∙ rest ∙ ap (λ l. report l text t) (added_twice 81 line (x ∷ []) xs)

  -- bytes of a line are kept, as far as there is room
  fed_inside : (line xs : List ℕ) → length line ≤ 81 → Inside xs → fed (report line text t) xs ≡ report (added 81 line xs) text t
  fed_inside line [] h inside = ap (λ l. report l text t) (sym (added_nothing 81 line h))
  fed_inside line (x ∷ xs) h inside =
      fed_more line x xs inside (fed_inside (added 81 line (x ∷ [])) xs (added_short 81 line (x ∷ [])) (λ k from to. inside (suc k) (omega arith) (omega arith)))

  part_fed : (line xs : List ℕ) → 0 < length xs → Inside xs → fed (report line text t) xs ≡ report (added 81 line xs) text t
  part_fed line [] some inside = absurd (omega arith)
  part_fed line (x ∷ xs) some inside =
      fed_more line x xs inside (fed_inside (added 81 line (x ∷ [])) xs (added_short 81 line (x ∷ [])) (λ k from to. inside (suc k) (omega arith) (omega arith)))

  end_fed : (line xs : List ℕ) → Inside xs → fed (report line text t) (xs ++ 10 ∷ []) ≡ line_ended (report (added 81 line xs) text t)
  end_fed line [] inside = ap (λ m. report [] (text ++ (result_text m ++ 10 ∷ [])) (counted (is_ok m) t)) (sym (nothing_cut line))
  end_fed line (x ∷ xs) inside =
      fold_push fed_byte (report line text t) (x ∷ xs) 10 ∙ ap line_ended (part_fed line (x ∷ xs) (omega arith) inside)

-- a part of a line that goes on comes in
pub fed_part : (r : Report) (xs : List ℕ) → 0 < length xs → Inside xs → fed r xs ≡ begun xs r
fed_part r xs some inside = part_fed r.text r.tally r.line xs some inside

-- the last part of a line comes in, and its end
fed_end : (r : Report) (xs : List ℕ) → Inside xs → fed r (xs ++ 10 ∷ []) ≡ line_ended (begun xs r)
fed_end r xs inside = end_fed r.text r.tally r.line xs inside

-- what was written before does not matter to what comes behind it

fed_byte_behind : (bytes : List ℕ) (r : Report) (b : ℕ) → fed_byte (preceded bytes r) b ≡ preceded bytes (fed_byte r b)
fed_byte_behind bytes r b =
    elim (is_end b) as (λ v. cond v (line_ended (preceded bytes r)) (begun (b ∷ []) (preceded bytes r)) ≡ preceded bytes (cond v (line_ended r) (begun (b ∷ []) r))) [
      | true ↦ ap (λ t. report [] t (counted (is_ok (message_of r.line)) r.tally)) (append_assoc bytes r.text (line_text r.line ++ 10 ∷ []))
      | false ↦ refl
    ]

fed_behind : (bytes : List ℕ) (r : Report) (xs : List ℕ) → fed (preceded bytes r) xs ≡ preceded bytes (fed r xs)
fed_behind bytes r [] = refl
fed_behind bytes r (x ∷ xs) = ap (λ s. fed s xs) (fed_byte_behind bytes r x) ∙ fed_behind bytes (fed_byte r x) xs

more_behind : (bytes more : List ℕ) (r s : Report) → preceded more r ≡ s → preceded (bytes ++ more) r ≡ preceded bytes s
more_behind bytes more r s e = ap (λ t. report r.line t r.tally) (append_assoc bytes more r.text) ∙ ap (preceded bytes) e

-- a line is taken from the bytes that are left, and what is said so far may go out
pub line_fed : (bytes more part after rest : List ℕ) (old mid new : Report) → Inside part → rest ≡ (part ++ 10 ∷ []) ++ after → mid ≡ line_ended (begun part old) → preceded more new ≡ mid → fed (preceded (bytes ++ more) new) after ≡ fed (preceded bytes old) rest
line_fed bytes more part after rest old mid new inside split step gone =
    ap (λ s. fed s after) (more_behind bytes more new mid gone ∙ ap (preceded bytes) (step ∙ sym (fed_end old part inside)) ∙ sym (fed_behind bytes old (part ++ 10 ∷ [])))
    ∙ sym (fold-append fed_byte (preceded bytes old) (part ++ 10 ∷ []) after)
    ∙ ap (fed (preceded bytes old)) (sym split)

-- so may it when the last part has come in
pub part_written : (bytes more rest : List ℕ) (old mid new : Report) → mid ≡ fed old rest → preceded more new ≡ mid → preceded (bytes ++ more) new ≡ fed (preceded bytes old) rest
part_written bytes more rest old mid new step gone =
    more_behind bytes more new mid gone ∙ ap (preceded bytes) step ∙ sym (fed_behind bytes old rest)

-- what was written, and all that is said at the end
pub all_written : (bytes : List ℕ) (r end whole : Report) → preceded bytes r ≡ whole → end ≡ closed r → bytes ++ end.text ≡ (closed whole).text
all_written bytes r end whole e d =
    ap (λ s. bytes ++ s.text) d ∙ elim (length r.line == 0) as (λ v. bytes ++ (counts_told (cond v r (line_ended r))).text ≡ (counts_told (cond v (preceded bytes r) (line_ended (preceded bytes r)))).text) [
      | true ↦ sym (append_assoc bytes r.text (tally_text r.tally ++ 10 ∷ []))
      | false ↦ sym (append_assoc bytes (r.text ++ (line_text r.line ++ 10 ∷ [])) (tally_text (line_ended r).tally ++ 10 ∷ [])) ∙ ap (λ x. x ++ (tally_text (line_ended r).tally ++ 10 ∷ [])) (sym (append_assoc bytes r.text (line_text r.line ++ 10 ∷ [])))
    ] ∙ ap (λ s. (closed s).text) e

-- the bytes up to the first that ends a line, and those behind it
module _ (bytes : List ℕ) (n : ℕ) (found : IsFirstByte (is_byte 10) bytes (Some n)) where
  pub inside_front : Inside (take n bytes)
  inside_front k low high at =
      let near : k < n = omega (arith, length-take n bytes) in
      found.0.before k low near (ap (is_byte 10) (sym (get_or-take n bytes k 0 near)) ∙ at)

  pub split_there : bytes ≡ (take n bytes ++ 10 ∷ []) ++ drop (n + 1) bytes
  split_there =
      let ten : get_or bytes n 0 ≡ 10 = eqb-true _ _ found.1 in
      sym (take-append-drop n bytes) ∙ ap (λ l. take n bytes ++ l) (drop_more bytes n 0 found.0.high ∙ ap (λ x. x ∷ drop (n + 1) bytes) ten) ∙ sym (append_assoc (take n bytes) (10 ∷ []) (drop (n + 1) bytes))
