-- A link keeps the rings sound.
use Rattle.std.proofs.Common.{◌≡◌, ℕ, true, false, None, sym, arith}
use Rattle.std.proofs.lemmas.Bool.{cases_eq}
use Rattle.std.specs.declared.cmp.Ordering.{Ordering}
use Rattle.std.specs.declared.cmp.Ordering.TheVariants.{Equal}
use Rattle.keys.specs.Orders.{Lawful}
use Rattle.keys.proofs.Preorders.{total_preorder}
use Rattle.rings.specs.Between.{between}
use Rattle.rings.specs.Laws.{LinkLaw, LinkAloneLaw}
use Rattle.rings.specs.Moves.{Linked, LinkedAlone}
use Rattle.rings.specs.Rings.{View, Sound}
use Rattle.rings.proofs.Arcs.{arc_front, arc_back, arcs_with_one_key, arc_without_start, arc_without_end}
use Rattle.rings.proofs.Nexts.{miss_is_right}

module _ {K : Type 0} {order : K → K → Ordering} (laws : Lawful order) (bucket : K → ℕ)
    (alike_bucket : (a b : K) → order a b ≡ Equal → bucket a ≡ bucket b) where
  module _ (v w : View K) (c x : ℕ) (s : Sound order bucket v) (t : Linked v w c x)
      (c-in : v.in_ring c ≡ true) (x-out : v.in_ring x ≡ false) (one_bucket : bucket (v.key x) ≡ bucket (v.key c))
      (arc : between order (v.key c) (v.key x) (v.key (v.next c)) ≡ true) where
    -- the new next of c is x, which is in ring, and the next of x is c's old one
    next_in_ring' : (p : ℕ) → w.in_ring p ≡ true → w.in_ring (w.next p) ≡ true
    next_in_ring' p i =
        grind arith

    -- x is in the bucket of c
    next_in_bucket' : (p : ℕ) → w.in_ring p ≡ true → bucket (w.key (w.next p)) ≡ bucket (w.key p)
    next_in_bucket' p i =
        grind arith

    -- nothing is on the two new arcs, since they are parts of the old one, and x is on no other, since it lies on one arc only
    nothing_between' : (p q : ℕ) → w.in_ring p ≡ true → w.in_ring q ≡ true → bucket (w.key q) ≡ bucket (w.key p) →
        between order (w.key p) (w.key q) (w.key (w.next p)) ≡ false
    nothing_between' p q ip iq b =
        let d1 = cases_eq p x in
        let d2 = cases_eq p c in
        let d3 = cases_eq q x in
        let o1 = t.others p in
        let o2 = t.others q in
        let s1 = s.nothing_between p q in
        let s2 = s.nothing_between c q c-in in
        let s3 = s.nothing_between c p c-in in
        let s4 = λ (i : v.in_ring p ≡ true). s.nothing_between p c i c-in in
        let s5 = s.unlike c p c-in in
        let a1 = arc_front laws (v.key c) (v.key q) (v.key x) (v.key (v.next c)) in
        let a2 = arc_back laws (v.key c) (v.key q) (v.key x) (v.key (v.next c)) in
        let a3 = arc_without_start laws (v.key x) (v.key (v.next c)) in
        let a4 = arc_without_end laws (v.key c) (v.key x) in
        let a5 = arcs_with_one_key laws (v.key c) (v.key (v.next c)) (v.key p) (v.key (v.next p)) (v.key x) arc in
        grind arith

    -- x is alike to nothing in ring, since its key missed
    unlike' : (p q : ℕ) → w.in_ring p ≡ true → w.in_ring q ≡ true → order (w.key p) (w.key q) ≡ Equal → p ≡ q
    unlike' p q ip iq e =
        let d1 = cases_eq p x in
        let d2 = cases_eq q x in
        let o1 = t.others p in
        let o2 = t.others q in
        let s1 = s.unlike p q in
        let m = miss_is_right laws bucket alike_bucket v c (v.key x) s c-in (sym one_bucket) arc in
        let s2 = m p in
        let s3 = m q in
        let s4 = (total_preorder laws).alike_turned (v.key p) (v.key q) in
        grind arith

    -- the heads are as they were
    linked_sound : Sound order bucket w
    linked_sound = record {
      next_in_ring = next_in_ring';
      next_in_bucket = next_in_bucket';
      nothing_between = nothing_between';
      unlike = unlike';
      head_in_ring = grind arith;
      head_in_bucket = grind arith;
      no_head = grind arith;
    }

  -- x is linked behind c
  pub link_keeps_sound : LinkLaw order bucket
  link_keeps_sound = linked_sound

  module _ (v w : View K) (x : ℕ) (s : Sound order bucket v) (t : LinkedAlone v w (bucket (v.key x)) x)
      (x-out : v.in_ring x ≡ false) (headless : v.head (bucket (v.key x)) ≡ None) where
    -- the bucket of x has nothing in ring
    empty : (p : ℕ) → v.in_ring p ≡ true → bucket (v.key p) ≡ bucket (v.key x) → ⊥
    empty p i b = grind arith

    -- so x meets no other place, and the other rings are as they were
    linked_alone_sound : Sound order bucket w
    linked_alone_sound = record {
      next_in_ring = grind arith;
      next_in_bucket = grind arith;
      nothing_between = λ p q ip iq b.
          grind (arith, t.alone, cases_eq, s.nothing_between, arc_without_start);
      unlike = grind arith;
      head_in_ring = grind arith;
      head_in_bucket = grind arith;
      no_head = grind arith;
    }

  -- x is linked alone in its bucket
  pub link_alone_keeps_sound : LinkAloneLaw order bucket
  link_alone_keeps_sound = linked_alone_sound
