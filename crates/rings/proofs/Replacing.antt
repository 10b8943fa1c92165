-- A replacement keeps the rings sound.
use Rattle.std.proofs.Common.{◌≡◌, ℕ, true, false, cond, eqb, sym, ap, ◌∙◌, inl, inr, arith}
use Rattle.std.proofs.lemmas.Bool.{cases_eq}
use Rattle.std.specs.declared.cmp.Ordering.{Ordering}
use Rattle.std.specs.declared.cmp.Ordering.TheVariants.{Equal}
use Rattle.keys.specs.Orders.{Lawful}
use Rattle.keys.proofs.Preorders.{total_preorder}
use Rattle.rings.specs.Between.{between}
use Rattle.rings.specs.Laws.{ReplaceLaw}
use Rattle.rings.specs.Moves.{Replaced}
use Rattle.rings.specs.Rings.{View, Sound}
use Rattle.rings.proofs.Arcs.{alike_on_arc, alike_arc_start, alike_arc_end}
use Rattle.rings.proofs.Nexts.{next_one_to_one}

module _ {K : Type 0} {order : K → K → Ordering} (laws : Lawful order) (bucket : K → ℕ)
    (alike_bucket : (a b : K) → order a b ≡ Equal → bucket a ≡ bucket b) where
  module _ (v w : View K) (c p x : ℕ) (s : Sound order bucket v) (t : Replaced v w c p x)
      (c-in : v.in_ring c ≡ true) (c-next : v.next c ≡ p) (x-out : v.in_ring x ≡ false) (alike : order (v.key x) (v.key p) ≡ Equal) where
    -- what is replaced is in ring
    in_ring_p : v.in_ring p ≡ true
    in_ring_p = grind arith

    -- where a place of the new rings stood in the old ones: x at p, and any other where it stands
    abbrev was : ℕ → ℕ
    was q = cond (eqb q x) p q

    -- p has left
    not_p : (q : ℕ) → w.in_ring q ≡ true → q ≡ p → ⊥
    not_p q i e = grind arith

    -- what is in ring was in ring
    was_in_ring : (q : ℕ) → w.in_ring q ≡ true → v.in_ring (was q) ≡ true
    was_in_ring q i =
        grind arith

    -- what was in ring is not x, so it stands where it stood
    was_same : (q : ℕ) → v.in_ring q ≡ true → was q ≡ q
    was_same q i = grind arith

    -- the nexts lead to the same places
    was_next : (q : ℕ) → w.in_ring q ≡ true → v.next (was q) ≡ was (w.next q)
    was_next q i =
        let n = not_p q i in
        let m = was_same (v.next (was q)) (s.next_in_ring (was q) (was_in_ring q i)) in
        elim (cases_eq q x) [
          | inl e ↦ grind arith
          | inr ne ↦ grind arith
        ]

    -- the keys are alike
    was_key : (q : ℕ) → order (w.key q) (v.key (was q)) ≡ Equal
    was_key q =
        grind arith

    -- the buckets are equal
    was_bucket : (q : ℕ) → bucket (w.key q) ≡ bucket (v.key (was q))
    was_bucket q = grind arith

    -- no two places stood at one
    was_one_to_one : (q r : ℕ) → w.in_ring q ≡ true → w.in_ring r ≡ true → was q ≡ was r → q ≡ r
    was_one_to_one q r i j e =
        grind arith

    -- what was in ring and is not p stays
    stays : (q : ℕ) → v.in_ring q ≡ true → (q ≡ p → ⊥) → w.in_ring q ≡ true
    stays q i n = grind arith

    -- no next is p: c's is x now, and only c had p as its next
    next_in_ring' : (q : ℕ) → w.in_ring q ≡ true → w.in_ring (w.next q) ≡ true
    next_in_ring' q i =
        let e = was_next q i in
        let h = s.next_in_ring (was q) (was_in_ring q i) in
        let n = not_p q i in
        let b = stays (w.next q) in
        let d1 = cases_eq (w.next q) x in
        let d2 = cases_eq (w.next q) p in
        let d3 = cases_eq q x in
        let d4 = cases_eq q c in
        let d5 = cases_eq (v.next p) p in
        let r = t.rest q n in
        let o = t.others q n in
        let u = λ (a : v.in_ring q ≡ true). next_one_to_one laws bucket v q c s a c-in in
        grind arith

    -- alike keys were alike
    was_alike : (q r : ℕ) → order (w.key q) (w.key r) ≡ Equal → order (v.key (was q)) (v.key (was r)) ≡ Equal
    was_alike q r e =
        let o = total_preorder laws in
        o.alike_chained _ _ _ (o.alike_turned _ _ (was_key q)) (o.alike_chained _ _ _ e (was_key r))

    -- so each fact on the new rings is one on the old ones
    replaced_sound : Sound order bucket w
    replaced_sound = record {
      next_in_ring = next_in_ring';
      next_in_bucket = grind arith;
      nothing_between = λ q r i j b.
          alike_arc_start laws _ _ _ _ (was_key q) ∙ alike_on_arc laws _ _ _ _ (was_key r) ∙ alike_arc_end laws _ _ _ _ (was_key (w.next q))
          ∙ ap (λ n. between order (v.key (was q)) (v.key (was r)) (v.key n)) (sym (was_next q i))
          ∙ s.nothing_between (was q) (was r) (was_in_ring q i) (was_in_ring r j) (sym (was_bucket r) ∙ b ∙ was_bucket q);
      unlike = λ q r i j e.
          was_one_to_one q r i j (s.unlike (was q) (was r) (was_in_ring q i) (was_in_ring r j) (was_alike q r e));
      head_in_ring = grind arith;
      head_in_bucket = grind arith;
      no_head = grind arith;
    }

  -- x takes the place of p
  pub replace_keeps_sound : ReplaceLaw order bucket
  replace_keeps_sound = replaced_sound
