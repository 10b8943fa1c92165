-- An index that has just been made satisfies the invariant, whatever its tables held before.
use Rattle.std.proofs.Common.{◌≡◌, ℕ, zero, suc, ◌^◌, ◌≤◌, Bool, true, false, cond, ltb, List, [], ◌∷◌, length, replicate, None, Ok, Err, sym, refl, ap, ◌∙◌, subst, arith}
use lib.ListN.{length-replicate}
use Rattle.std.specs.List.{slice_get}
use Rattle.std.proofs.lemmas.Bool.{ltb-false, leb-true, eqb-true}
use Rattle.std.specs.declared.cmp.Ordering.{Ordering}
use Rattle.calls.specs.declared.fault.IndexFault.TheVariants.{HeadBits, TableLengths}
use Rattle.keys.specs.Hashes.{Hash}
use Rattle.keys.specs.Ranks.{by_rank, bucket_of}
use Rattle.rings.proofs.Counting.{count_none}
use Rattle.tables.specs.declared.item.Item.{Item}
use Rattle.tables.specs.declared.item.ItemState.TheVariants.{Out, SetAside}
use Rattle.tables.specs.declared.session.Stage.TheVariants.{Idle}
use Rattle.tables.specs.Items.{is_in_ring}
use Rattle.tables.specs.Reads.{none}
use Rattle.tables.specs.Sessions.{idle}
use Rattle.rules.specs.Making.{blank_from, is_makable, made, make}
use Rattle.rules.specs.Plain.{fresh}
use Rattle.rules.specs.States.{State, Outcome}
use Rattle.rules.proofs.Frames.{absent_present}
use Rattle.rules.proofs.Invariant.{Shape, Kept, Inv}
use Rattle.rules.proofs.Views.{Whole, whole, state_in, mark_in, head_in, stage_in, cursor_at, aside_at, claim_at}

-- a state in which every item is out and unoccupied, no bucket has a head and every session is idle
module _ {K V : Type 0} (order rank : K → K → Ordering) (bucket : K → ℕ) (n : ℕ) (w : Whole K V) (out : (p : ℕ) → w.state p ≡ Out) (unmarked : (p : ℕ) → w.mark p ≡ false) (headless : (b : ℕ) → w.head b ≡ None) (all-idle : (s : ℕ) → w.stage s ≡ Idle) where
  -- nothing is in ring
  not_in_ring : (p : ℕ) → is_in_ring (w.state p) ≡ true → ⊥
  not_in_ring p ringed = let z : true ≡ false = sym ringed ∙ ap is_in_ring (out p) in grind arith

  -- nothing is set aside
  not_set_aside : (p : ℕ) → w.state p ≡ SetAside → ⊥
  not_set_aside p e = grind arith

  -- the invariant holds of it, with the empty plain table
  empty_kept : Kept order rank bucket fresh n w
  empty_kept = record {
    rings = grind arith;
    within = λ p used. absurd (used (out p));
    idle = λ s e. refl;
    under_way = λ s work e. grind arith;
    ended = λ s o present e. grind arith;
    cursor_within = λ s c e. absurd (absent_present (ap cursor_at (all-idle s)) e);
    cursor_state = λ s c e. absurd (absent_present (ap cursor_at (all-idle s)) e);
    cursor_bucket = λ s c e. absurd (absent_present (ap cursor_at (all-idle s)) e);
    aside_state = λ s x e. absurd (absent_present (ap aside_at (all-idle s)) e);
    aside_key = λ s x e. absurd (absent_present (ap aside_at (all-idle s)) e);
    aside_value = λ s x e. absurd (absent_present (ap aside_at (all-idle s)) e);
    aside_apart = λ s t x e. absurd (absent_present (ap aside_at (all-idle s)) e);
    aside_owned = λ x e. absurd (not_set_aside x e);
    claim_state = λ s p e. absurd (absent_present (ap claim_at (all-idle s)) e);
    claim_mark = λ s p e. absurd (absent_present (ap claim_at (all-idle s)) e);
    claim_key = λ s p e. absurd (absent_present (ap claim_at (all-idle s)) e);
    claim_apart = λ s t p e. absurd (absent_present (ap claim_at (all-idle s)) e);
    claim_owned = λ p e. grind arith;
    claim_next = λ s p x e. absurd (absent_present (ap claim_at (all-idle s)) e);
    held = λ p e. absurd (not_in_ring p (ap is_in_ring e));
    known = λ x v e. absurd (absent_present refl e);
    apart = tt;
    counted = sym (count_none (λ p. is_in_ring (w.state p)) not_in_ring n);
  }

module _ {K V : Type 0} where
  -- items made new are out
  blank_out : (p : ℕ) (items : List (Item K V)) (i : ℕ) → state_in (slice_get (blank_from p items) i) ≡ Out
  blank_out p [] i = refl
  blank_out p (it ∷ items) zero = refl
  blank_out p (it ∷ items) (suc i) = blank_out (suc p) items i

  -- and unoccupied
  blank_unmarked : (p : ℕ) (items : List (Item K V)) (i : ℕ) → mark_in (slice_get (blank_from p items) i) ≡ false
  blank_unmarked p [] i = refl
  blank_unmarked p (it ∷ items) zero = refl
  blank_unmarked p (it ∷ items) (suc i) = blank_unmarked (suc p) items i

  -- and as many as before
  blank_long : (p : ℕ) (items : List (Item K V)) → length (blank_from p items) ≡ length items
  blank_long p [] = refl
  blank_long p (it ∷ items) = ap suc (blank_long (suc p) items)

-- no bucket made new has a head
no_heads : (n b : ℕ) → head_in (slice_get (replicate n none) b) ≡ None
no_heads zero b = refl
no_heads (suc n) zero = refl
no_heads (suc n) (suc b) = no_heads n b

-- every session made new is idle
new_idle : (n s : ℕ) → stage_in (slice_get (replicate n idle) s) ≡ Idle
new_idle zero s = refl
new_idle (suc n) zero = refl
new_idle (suc n) (suc s) = new_idle n s

module _ {K V : Type 0} (order : K → K → Ordering) (digest : K → Hash) (k : ℕ) (old : State K V) where
  -- the shape of an index made new
  made_shape : k ≤ 8 → is_makable k old ≡ true → Shape (made k old)
  made_shape few makable =
      let heads : length old.heads ≡ 2 ^ k = eqb-true _ _ (grind arith) in
      let some : 1 ≤ length old.items = leb-true _ _ (grind arith) in
      record {
        made = refl;
        few_bits = few;
        some_place = some;
        few_places = grind arith;
        hand_within = omega arith;
        heads_long = length-replicate (length old.heads) none ∙ heads;
        items_long = blank_long 0 old.items;
        requests_long = grind arith;
        sessions_long = grind arith;
      }

  -- an index made new satisfies the invariant
  made_kept : k ≤ 8 → is_makable k old ≡ true → Inv order digest fresh (made k old)
  made_kept few makable = record {
    shape = made_shape few makable;
    kept = λ d e. empty_kept order (by_rank order digest k) (bucket_of order digest k) (length old.items) (whole d e (made k old)) (blank_out 0 old.items) (blank_unmarked 0 old.items) (no_heads (length old.heads)) (new_idle 16);
  }

  -- making an index gives one that satisfies the invariant, with the empty plain table
  pub making_kept : (st : State K V) → make k old ≡ (Ok tt, st) → Inv order digest fresh st
  making_kept st is = go (ltb 8 k) refl (is_makable k old) refl is
    where
      go : (big : Bool) → ltb 8 k ≡ big → (fit : Bool) → is_makable k old ≡ fit → cond {A = Outcome (Unit {0}) K V} big (Err HeadBits, old) (cond fit (Ok tt, made k old) (Err TableLengths, old)) ≡ (Ok tt, st) → Inv order digest fresh st
      go true l fit m e = absurd (let z = ap (λ o. o.0) e in grind arith)
      go false l false m e = absurd (let z = ap (λ o. o.0) e in grind arith)
      go false l true m e = subst (Inv order digest fresh) (ap (λ o. o.1) e) (made_kept (ltb-false 8 k l) m)
