-- The tables of a board's index, lent to a call and come back.
use Rattle.std.proofs.Common.{◌≡◌, ℕ, List, length, drop, Ok, vec_items, vec_len, Vec, sym, ◌∙◌, subst, refl, arith}
use Rattle.std.proofs.lemmas.List.{take-append-le, take_all}
use Rattle.std.specs.Vec.{with_items}
use Rattle.std.specs.declared.cmp.Ordering.{Ordering}
use Rattle.keys.specs.Hashes.{Hash}
use Rattle.keys.specs.Ranks.{LawfulKind}
use Rattle.rules.proofs.LawOfRuns.{make_law}
use Rattle.rules.specs.RunLaw.{GoesOn, Starts}
use Rattle.rules.specs.Runs.{Event}
use Rattle.rules.specs.States.{State, state}
use Rattle.tables.specs.declared.item.Item.{Item}
use Rattle.tables.specs.declared.record.Core.{Core}
use Rattle.tables.specs.declared.request.Request.{Request}
use Rattle.board_server.specs.BoardIndexes.{filled, new_state}

-- a table comes back as it was left
pub come_back : {X Z : Type 0} (v : Vec X Z) (ws : List X) → length ws ≡ vec_len v → vec_items (with_items v ws) ≡ ws
come_back v ws e = take-append-le (vec_len v) ws (drop (length ws) (vec_items v)) (omega arith) ∙ take_all (vec_len v) ws (omega arith)

-- states with the same parts
pub same_state : {K V : Type 0} {c d : Core} {hs gs : List ℕ} {is js : List (Item K V)} {rs qs : List (Request K V)} → c ≡ d → hs ≡ gs → is ≡ js → rs ≡ qs → state c hs is rs ≡ state d gs js qs
same_state e f g h = cc

-- the run law of a call between states, as that of a call between the same states
pub law_between : {K V : Type 0} (order : K → K → Ordering) (digest : K → Hash) (e : Event K V) {st lent left after : State K V} → lent ≡ st → after ≡ left → GoesOn order digest lent e left → GoesOn order digest st e after
law_between {K} {V} order digest e {st} {lent} {left} {after} before behind law =
    subst (λ (s : State K V). GoesOn order digest s e after) before (subst (λ (s : State K V). GoesOn order digest lent e s) (sym behind) law)

-- an index made new is where a run starts
pub new_starts : {K V : Type 0} (order : K → K → Ordering) (digest : K → Hash) → LawfulKind order digest → (key : K) (value : V) → Starts order digest (new_state key value)
new_starts order digest kind key value = make_law order digest kind 4 (filled key value) (new_state key value) (Ok tt) refl refl
