-- Taking a place out keeps the rings sound.
use Rattle.std.proofs.Common.{◌≡◌, ℕ, true, false, ◌⊎◌, Some, None, Option, inr, arith}
use Rattle.std.proofs.lemmas.Bool.{cases_eq}
use Rattle.std.specs.declared.cmp.Ordering.{Ordering}
use Rattle.keys.specs.Orders.{Lawful}
use Rattle.rings.specs.Laws.{UnlinkLaw, UnlinkLastLaw}
use Rattle.rings.specs.Moves.{Unlinked, UnlinkedLast}
use Rattle.rings.specs.Rings.{View, Sound}
use Rattle.rings.proofs.Arcs.{arc_split}
use Rattle.rings.proofs.Nexts.{next_one_to_one, not_own_next, alone_in_bucket}

-- an option holds a place or it does not: a head moves with p if it is p
pub holds_cases : (o : Option ℕ) (p : ℕ) → (o ≡ Some p) ⊎ (o ≡ Some p → ⊥)
holds_cases (Some h) p = grind arith
holds_cases None p = inr (λ e. cc)

-- what is in ring after p has left was there before, and is not p
was_in :
    {K : Type 0} (v w : View K) (p : ℕ) → w.in_ring p ≡ false → ((q : ℕ) → (q ≡ p → ⊥) → w.in_ring q ≡ v.in_ring q) →
    (q : ℕ) → w.in_ring q ≡ true → (v.in_ring q ≡ true) × (q ≡ p → ⊥)
was_in v w p left others q i =
    grind arith

module _ {K : Type 0} {order : K → K → Ordering} (laws : Lawful order) (bucket : K → ℕ) where
  module _ (v w : View K) (c p : ℕ) (s : Sound order bucket v) (t : Unlinked v w c p)
      (c-in : v.in_ring c ≡ true) (c-next : v.next c ≡ p) (c-not-p : c ≡ p → ⊥) where
    -- what is taken out was in ring
    in_ring_p : v.in_ring p ≡ true
    in_ring_p = grind arith

    -- its next is another place, which can be c's next
    next_not_p : v.next p ≡ p → ⊥
    next_not_p = not_own_next laws bucket v c p s c-in c-next c-not-p

    -- what is in ring now
    was : (q : ℕ) → w.in_ring q ≡ true → (v.in_ring q ≡ true) × (q ≡ p → ⊥)
    was = grind arith

    -- only c had p as its next, and it has p's next now
    unlinked_sound : Sound order bucket w
    unlinked_sound = record {
      next_in_ring = λ q i.
          grind (arith, t.behind, cases_eq, next_one_to_one, t.rest);
      next_in_bucket = grind arith;
      -- nothing is on the joined arc: it would be on one of the two old ones, or alike to p
      nothing_between = λ q r i j b.
          let o = was q i in
          let o' = was r j in
          let d = cases_eq q c in
          let s1 = s.nothing_between q r o.0 o'.0 in
          let s2 = s.nothing_between p r in_ring_p o'.0 in
          let s3 = s.nothing_between c r c-in o'.0 in
          let s4 = s.next_in_bucket c c-in in
          let n = t.rest q o.1 in
          let a = arc_split laws (v.key c) (v.key r) (v.key p) (v.key (v.next p)) in
          let u = s.unlike r p o'.0 in_ring_p in
          grind arith;
      unlike = grind arith;
      head_in_ring = λ b h e.
          let d1 = holds_cases (v.head b) p in
          let d2 = cases_eq h p in
          let h1 = t.headed b in
          let h2 = t.heads b in
          let s1 = s.head_in_ring b h in
          let s2 = s.next_in_ring p in_ring_p in
          let o1 = t.others (v.next p) next_not_p in
          let o2 = t.others h in
          grind arith;
      head_in_bucket = λ b h e.
          let d = holds_cases (v.head b) p in
          let h1 = t.headed b in
          let h2 = t.heads b in
          let s1 = s.head_in_bucket b h in
          let s2 = s.head_in_bucket b p in
          let s3 = s.next_in_bucket p in_ring_p in
          let k = t.keys h in
          grind arith;
      no_head = grind arith;
    }

  -- p is taken out behind c
  pub unlink_keeps_sound : UnlinkLaw order bucket
  unlink_keeps_sound = unlinked_sound

  module _ (v w : View K) (p : ℕ) (s : Sound order bucket v) (t : UnlinkedLast v w p)
      (p-in : v.in_ring p ≡ true) (own-next : v.next p ≡ p) where
    -- what is in ring now
    was_last : (q : ℕ) → w.in_ring q ≡ true → (v.in_ring q ≡ true) × (q ≡ p → ⊥)
    was_last = grind arith

    -- p was alone in its bucket, so that bucket is empty, and the other rings are as they were
    unlinked_last_sound : Sound order bucket w
    unlinked_last_sound = record {
      next_in_ring = λ q i.
          grind (arith, s.next_in_ring, t.others, next_one_to_one);
      next_in_bucket = grind arith;
      nothing_between = grind arith;
      unlike = grind arith;
      head_in_ring = grind arith;
      head_in_bucket = grind arith;
      no_head = λ q i e.
          grind (arith, was_last, holds_cases, t.heads, s.head_in_bucket, alone_in_bucket);
    }

  -- p, its own next, is taken out
  pub unlink_last_keeps_sound : UnlinkLastLaw order bucket
  unlink_last_keeps_sound = unlinked_last_sound
