-- Bytes taken in, and lines answered.
use Rattle.std.proofs.Common.{◌≡◌, ℕ, suc, ◌+◌, ◌-◌, ◌≤◌, ◌<◌, min, true, false, cond, None, List, [], ◌∷◌, ◌++◌, length, take, drop, get_or, sym, refl, ap, ◌∙◌, arith, ◌==◌, take-add}
use Rattle.memchr.specs.Find.{IsFirstByte, Passes, is_byte}
use Rattle.std.proofs.lemmas.List.{take_all, take_more, get_or-take, get_or-drop, length-append, length-take, length-drop, drop-drop}
use Rattle.std.proofs.lemmas.List.Sums.{fold-append, fold_push}
use Rattle.std.proofs.lemmas.Bool.{eqb-true}
use Rattle.std.proofs.lemmas.Bool.Decides.{nat_tests}
use Rattle.std.proofs.lemmas.Grind.{common_steps}
use Rattle.text.specs.Kept.{added}
use Rattle.text.proofs.Adding.{added_twice, added_nothing}
use Rattle.board_server.specs.Answers.{appended}
use Rattle.board_server.specs.Served.{Boards, served, answered}
use Rattle.board_server.specs.Streams.{is_end, Streamed, streamed, with_line, line_ended, fed_byte, fed, has_room, cleared}

-- what fits is added whole
added_whole : (text more : List ℕ) → length text + length more ≤ 65536 → appended text more ≡ text ++ more
unfolding added
added_whole text more h = take_all 65536 (text ++ more) (omega (arith, length-append text more))

pub added_short : (n : ℕ) (bs more : List ℕ) → length (added n bs more) ≤ n
unfolding added
added_short n bs more = omega (arith, length-take n (bs ++ more))

-- none of these bytes ends a line
abbrev pub Inside : List ℕ → Type 0
Inside xs = IsFirstByte (is_byte 10) xs None

module _ (b : Boards) (text : List ℕ) where
  fed_one : (line : List ℕ) (x : ℕ) → ¬ (is_end x ≡ true) → fed_byte (streamed b line text) x ≡ streamed b (added 81 line (x ∷ [])) text
  fed_one line x inner = let in_line : is_end x ≡ false = grind (arith, nat_tests) in rw in_line

  fed_more : (line : List ℕ) (x : ℕ) (xs : List ℕ) → Inside (x ∷ xs) → fed (streamed b (added 81 line (x ∷ [])) text) xs ≡ streamed b (added 81 (added 81 line (x ∷ [])) xs) text → fed (streamed b line text) (x ∷ xs) ≡ streamed b (added 81 line (x ∷ xs)) text
  fed_more line x xs inside rest =
      ap (λ s. fed s xs) (fed_one line x (inside 0 (omega arith) (omega arith))) ∙ rest ∙ ap (λ l. streamed b l text) (added_twice 81 line (x ∷ []) xs)

  -- bytes of a line are kept, as far as there is room
  pub fed_inside : (line xs : List ℕ) → length line ≤ 81 → Inside xs → fed (streamed b line text) xs ≡ streamed b (added 81 line xs) text
  fed_inside line [] h inside = ap (λ l. streamed b l text) (sym (added_nothing 81 line h))
  fed_inside line (x ∷ xs) h inside =
      fed_more line x xs inside (fed_inside (added 81 line (x ∷ [])) xs (added_short 81 line (x ∷ [])) (λ k from to. inside (suc k) (omega arith) (omega arith)))

  pub fed_part : (line xs : List ℕ) → 0 < length xs → Inside xs → streamed b (added 81 line xs) text ≡ fed (streamed b line text) xs
  fed_part line [] some inside = absurd (omega arith)
  fed_part line (x ∷ xs) some inside =
      sym (fed_more line x xs inside (fed_inside (added 81 line (x ∷ [])) xs (added_short 81 line (x ∷ [])) (λ k from to. inside (suc k) (omega arith) (omega arith))))

-- a line that has been read is answered: its answer comes behind the text, whole
module _ (b after : Boards) (line bytes rest text one two : List ℕ) (same : bytes ≡ line) (short : length (served bytes b).0 ≤ 48) (room : length text ≤ 65472) where
  pub line_answered : (one, after) ≡ answered text bytes b → two ≡ appended one (10 ∷ []) → rest ≡ [] → streamed after rest two ≡ line_ended (streamed b line text)
  line_answered exact push clear =
      let answer = (served bytes b).0 in
      let first : one ≡ text ++ answer = ap (λ d. d.0) exact ∙ added_whole text answer (omega arith) in
      let second : two ≡ (text ++ answer) ++ 10 ∷ [] =
      push ∙ ap (λ t. appended t (10 ∷ [])) first ∙ added_whole (text ++ answer) (10 ∷ []) (omega (arith, length-append text answer)) in
      let stays : after ≡ (served bytes b).1 = ap (λ d. d.1) exact in
      ap (λ x. streamed x rest two) stays ∙ ap (λ x. streamed (served bytes b).1 x two) clear ∙ ap (λ x. streamed (served bytes b).1 [] x) second ∙ ap (λ l. line_ended (streamed b l text)) same

-- what a line still lacked and its end come in, and it is answered
module _ (b after : Boards) (line text whole one two xs : List ℕ) (old : Streamed) (seen : streamed b line text ≡ old) (kept : length line ≤ 81) (inside : Inside xs) (room : has_room old ≡ true) where
  pub line_fed : whole ≡ added 81 line xs → length (served whole b).0 ≤ 48 → (one, after) ≡ answered text whole b → two ≡ appended one (10 ∷ []) → streamed after [] two ≡ fed old (xs ++ 10 ∷ [])
  line_fed same short exact push =
      let there = ap has_room seen ∙ room in
      let left : length text ≤ 65472 = grind (arith, nat_tests) in
      let all : fed (streamed b line text) (xs ++ 10 ∷ []) ≡ line_ended (streamed b whole text) =
      fold_push fed_byte (streamed b line text) xs 10 ∙ ap line_ended (fed_inside b text line xs kept inside ∙ ap (λ l. streamed b l text) (sym same)) in
      line_answered b after whole whole [] text one two refl short left exact push refl ∙ sym all ∙ ap (λ s. fed s (xs ++ 10 ∷ [])) seen

pub no_bytes : (line seen : List ℕ) → seen ≡ line → true ≡ (length seen == 0) → line ≡ []
no_bytes [] seen e none = refl
no_bytes (x ∷ xs) seen e none = let z : length seen ≡ 0 = grind (arith, nat_tests) in absurd (omega (arith, ap length e))

-- a line at hand whole is cut where one that is read would be
pub cut_whole : (n k : ℕ) (xs : List ℕ) → k ≡ min (length xs) n → take k xs ≡ added n [] xs
unfolding added
cut_whole n k xs e = grind (arith, common_steps)

-- the bytes from a place up to where the line ends
module _ (bytes : List ℕ) (from to : ℕ) (le : from ≤ to) where
  pub inside_part : ((k : ℕ) → from ≤ k → k < to → ¬ Passes (is_byte 10) bytes k) → Inside (take (to - from) (drop from bytes))
  inside_part before k low high at =
      let near : k < to - from = omega (arith, length-take (to - from) (drop from bytes)) in
      before (from + k) (omega arith) (omega arith) (ap (is_byte 10) (sym (get_or-take (to - from) (drop from bytes) k 0 near ∙ get_or-drop from bytes k 0)) ∙ at)

  pub with_end : to < length bytes → Passes (is_byte 10) bytes to → take (to - from) (drop from bytes) ++ 10 ∷ [] ≡ take ((to + 1) - from) (drop from bytes)
  with_end within ends =
      let place : from + (to - from) ≡ to = omega arith in
      let count : (to - from) + 1 ≡ (to + 1) - from = omega arith in
      let ten : get_or (drop from bytes) (to - from) 0 ≡ 10 = get_or-drop from bytes (to - from) 0 ∙ ap (λ k. get_or bytes k 0) place ∙ eqb-true _ _ ends in
      sym (ap (λ n. take n (drop from bytes)) (sym count) ∙ take_more (drop from bytes) (to - from) 0 (omega (arith, length-drop from bytes)) ∙ ap (λ x. take (to - from) (drop from bytes) ++ x ∷ []) ten)

  -- they come in behind those before them
  pub fed_on : (s t u : Streamed) → t ≡ fed s (take from bytes) → u ≡ fed t (take (to - from) (drop from bytes)) → u ≡ fed s (take to bytes)
  fed_on s t u e d =
      let sum : from + (to - from) ≡ to = omega arith in
      d ∙ ap (λ x. fed x (take (to - from) (drop from bytes))) e ∙ sym (fold-append fed_byte s (take from bytes) (take (to - from) (drop from bytes))) ∙ ap (fed s) (sym (take-add from (to - from) bytes) ∙ ap (λ n. take n bytes) sum)

-- the answers so far do not matter to what comes after them
fed_byte_cleared : (s : Streamed) (b : ℕ) → cleared (fed_byte (cleared s) b) ≡ cleared (fed_byte s b)
fed_byte_cleared s b = elim (is_end b) as (λ v. cleared (cond v (line_ended (cleared s)) (with_line (added 81 s.line (b ∷ [])) (cleared s))) ≡ cleared (cond v (line_ended s) (with_line (added 81 s.line (b ∷ [])) s))) [ true ↦ refl | false ↦ refl ]

pub fed_cleared : (s t : Streamed) (bytes : List ℕ) → cleared s ≡ cleared t → cleared (fed s bytes) ≡ cleared (fed t bytes)
fed_cleared s t [] e = e
fed_cleared s t (b ∷ bytes) e =
    fed_cleared (fed_byte s b) (fed_byte t b) bytes (sym (fed_byte_cleared s b) ∙ ap (λ x. cleared (fed_byte x b)) e ∙ fed_byte_cleared t b)

-- a part of the bytes that are left is taken in
module _ (bytes rest after : List ℕ) (count : ℕ) (within : length rest ≤ length bytes) (here : rest ≡ drop (length bytes - length rest) bytes) (few : count ≤ length rest) (left : after ≡ take (length rest - count) (drop count rest)) where
  behind : after ≡ drop count rest
  behind = left ∙ take_all (length rest - count) (drop count rest) (omega (arith, length-drop count rest))

  pub fewer : length after ≡ length rest - count
  fewer = ap length behind ∙ length-drop count rest

  far : length bytes - length after ≡ (length bytes - length rest) + count
  far = omega (arith, fewer)

  pub left_on : after ≡ drop (length bytes - length after) bytes
  left_on = behind ∙ ap (drop count) here ∙ drop-drop count (length bytes - length rest) bytes ∙ ap (λ n. drop n bytes) (sym far)

  taken_on : take (length bytes - length rest) bytes ++ take count rest ≡ take (length bytes - length after) bytes
  taken_on = sym (ap (λ n. take n bytes) far ∙ take-add (length bytes - length rest) count bytes ∙ ap (λ xs. take (length bytes - length rest) bytes ++ take count xs) (sym here))

  module _ (s t u : Streamed) where
    -- once the answers are written out
    pub fed_further : cleared t ≡ cleared (fed s (take (length bytes - length rest) bytes)) → u ≡ fed (cleared t) (take count rest) → cleared u ≡ cleared (fed s (take (length bytes - length after) bytes))
    fed_further e d =
        ap cleared d ∙ fed_cleared (cleared t) (fed s (take (length bytes - length rest) bytes)) (take count rest) e ∙ ap cleared (sym (fold-append fed_byte s (take (length bytes - length rest) bytes) (take count rest)) ∙ ap (fed s) taken_on)
