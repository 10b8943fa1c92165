-- Each ring as the list of its places.
use Rattle.std.proofs.Common.{◌≡◌, ℕ, zero, suc, ◌<◌, Bool, true, false, ◌&&◌, ◌⊎◌, List, [], ◌∷◌, length, Some, refl, inl, inr, arith}
use Rattle.std.specs.List.{slice_get}
use Rattle.std.proofs.lemmas.Bool.{both_ways, cases_eq, cases_Bool}
use Rattle.std.specs.declared.cmp.Ordering.{Ordering}
use Rattle.std.specs.declared.cmp.Ordering.TheVariants.{Less}
use Rattle.keys.specs.Orders.{Lawful}
use Rattle.rings.specs.Between.{below, between}
use Rattle.rings.specs.Laws.{ListLaw}
use Rattle.rings.specs.RingLists.{In, Once, Follows, count_below, in_bucket, RingList}
use Rattle.rings.specs.Rings.{View, Sound}
use Rattle.rings.proofs.Arcs.{arc_back, arc_split, arc_without_start, arc_whole, arc_first, arc_top, neither_below}
use Rattle.rings.proofs.Counting.{count_bounded, count_fewer, count_listed}

-- the place is in ring in the bucket b
abbrev Here : {K : Type 0} → (K → ℕ) → View K → ℕ → ℕ → Type 0
Here bucket v b p = (v.in_ring p ≡ true) × (bucket (v.key p) ≡ b)

-- the place q lies on the arc from the place p to the place h
abbrev on_arc : {K : Type 0} → (K → K → Ordering) → View K → ℕ → ℕ → ℕ → Bool
on_arc order v h p q = between order (v.key p) (v.key q) (v.key h)

-- the step from p to its next rises
abbrev rising : {K : Type 0} → (K → K → Ordering) → View K → ℕ → Bool
rising order v p = below order (v.key p) (v.key (v.next p))

-- the way by the nexts from p to h: it passes p and what lies on the arc from p to h, each once, and falls back or ends higher
record Way {K : Type 0} (order : K → K → Ordering) (bucket : K → ℕ) (v : View K) (b h p : ℕ) (places : List ℕ) : Type 0 where
  pub starts : slice_get places 0 ≡ Some p
  pub follows : Follows v.next p places h
  pub all : (q : ℕ) → Here bucket v b q → (q ≡ p) ⊎ (on_arc order v h p q ≡ true) → In q places
  pub here : (q : ℕ) → In q places → Here bucket v b q
  pub all_on_arc : (q : ℕ) → In q places → (q ≡ p) ⊎ (on_arc order v h p q ≡ true)
  pub once : Once places
  pub falls : ((q : ℕ) × In q places × (rising order v q ≡ false)) ⊎ (order (v.key p) (v.key h) ≡ Less)

module _ {K : Type 0} {order : K → K → Ordering} (laws : Lawful order) (bucket : K → ℕ)
    (v : View K) (n b h : ℕ) (s : Sound order bucket v) (within : (p : ℕ) → v.in_ring p ≡ true → p < n) (h-here : Here bucket v b h) where
  -- a next is in ring in the bucket
  here_next : (p : ℕ) → Here bucket v b p → Here bucket v b (v.next p)
  here_next p i = grind arith

  -- nothing of the ring falls between a place and its next
  clear : (p q : ℕ) → Here bucket v b p → Here bucket v b q → between order (v.key p) (v.key q) (v.key (v.next p)) ≡ false
  clear p q i j = grind arith

  -- a step that does not come to h stays short of it
  next_on_arc : (p : ℕ) → Here bucket v b p → (v.next p ≡ h → ⊥) → on_arc order v h p (v.next p) ≡ true
  next_on_arc p i ne =
      arc_first laws (v.key p) (v.key (v.next p)) (v.key h) (clear p h i h-here)
      (λ e. ne (s.unlike (v.next p) h (s.next_in_ring p i.0) h-here.0 e))

  -- and what lies further on lies short of h too
  further_on_arc :
      (p q : ℕ) → Here bucket v b p → (v.next p ≡ h → ⊥) →
      (q ≡ v.next p) ⊎ (on_arc order v h (v.next p) q ≡ true) → on_arc order v h p q ≡ true
  further_on_arc p q i ne c =
      let a = next_on_arc p i ne in
      elim c [ inl k ↦ grind arith | inr k ↦ arc_back laws (v.key p) (v.key q) (v.key (v.next p)) (v.key h) k a ]

  -- the places of the ring that are still ahead on the way from p to h
  abbrev ahead : ℕ → ℕ → Bool
  ahead p q = in_bucket bucket v b q && on_arc order v h p q

  -- each step leaves fewer ahead, so the way comes to an end
  nearer : (p : ℕ) → Here bucket v b p → (v.next p ≡ h → ⊥) → count_below (ahead (v.next p)) n < count_below (ahead p) n
  nearer p i ne =
      let a = next_on_arc p i ne in
      let m = here_next p i in
      count_fewer (ahead (v.next p)) (ahead p)
      (λ k t. grind (arith, arc_back))
      (v.next p)
      (grind (arith, arc_without_start))
      (grind arith)
      n (within (v.next p) m.0)

  -- the last place of a way
  way_end : (p : ℕ) → Here bucket v b p → v.next p ≡ h → Way order bucket v b h p (p ∷ [])
  way_end p i e = record {
    starts = refl;
    follows = (refl, e);
    all = grind arith;
    here = λ q j. grind arith;
    all_on_arc = λ q j. grind arith;
    once = (λ k. k, tt);
    falls = grind arith;
  }

  -- one place more at the start of a way
  way_more :
      (p : ℕ) → Here bucket v b p → (v.next p ≡ h → ⊥) →
      (ps : List ℕ) → Way order bucket v b h (v.next p) ps → Way order bucket v b h p (p ∷ ps)
  way_more p i ne ps way =
      let m = v.next p in
      let on = λ (q : ℕ) (j : In q ps). further_on_arc p q i ne (way.all_on_arc q j) in
      record {
        starts = refl;
        follows = grind arith;
        all = λ q j c.
            elim c [
              | inl k ↦ inl k
              | inr k ↦
                  let x = arc_split laws (v.key p) (v.key q) (v.key m) (v.key h) k (clear p q i j) in
                  let u = s.unlike q m j.0 (here_next p i).0 in
                  inr (way.all q j (elim (cases_Bool (on_arc order v h m q)) [ inl t ↦ inr t | inr f ↦ inl (u (x f)) ]))
            ];
        here = λ q j. grind arith;
        all_on_arc = λ q j. grind arith;
        once = (λ k. both_ways (on_arc order v h p p) (arc_without_start laws (v.key p) (v.key h)) (on p k), way.once);
        falls = grind arith;
      }

  -- the way from p, by as much fuel as places are ahead
  way_from : (fuel p : ℕ) → count_below (ahead p) n < fuel → Here bucket v b p → (places : List ℕ) × Way order bucket v b h p places
  way_from zero p f i = absurd (omega arith)
  way_from (suc fuel) p f i =
      elim (cases_eq (v.next p) h) [
        | inl e ↦ (p ∷ [], way_end p i e)
        | inr ne ↦
            let d = nearer p i ne in
            let w = way_from fuel (v.next p) (omega arith) (here_next p i) in
            (p ∷ w.0, way_more p i ne w.0 w.1)
      ]

  -- the ring is h and what lies on the arc from h round to h
  around : (q : ℕ) → Here bucket v b q → (q ≡ h) ⊎ (on_arc order v h h q ≡ true)
  around q j =
      elim (cases_Bool (on_arc order v h h q)) [
        | inl t ↦ inr t
        | inr f ↦ inl (s.unlike q h j.0 h-here.0 (arc_whole laws (v.key h) (v.key q) f))
      ]

  -- the places from which a ring falls back have alike keys, so they are one
  one_fall : (p q : ℕ) → Here bucket v b p → Here bucket v b q → rising order v p ≡ false → rising order v q ≡ false → p ≡ q
  one_fall p q i j f g =
      s.unlike p q i.0 j.0
      (neither_below laws (v.key p) (v.key q)
      (arc_top laws (v.key p) (v.key (v.next p)) (v.key q) f (clear p q i j))
      (arc_top laws (v.key q) (v.key (v.next q)) (v.key p) g (clear q p j i)))

  -- a way all round falls back, since it does not end higher than it began
  falls_back : (places : List ℕ) → Way order bucket v b h h places → (q : ℕ) × In q places × (rising order v q ≡ false)
  falls_back places way =
      grind arith

  -- a way all round is as long as the places of the bucket are many
  way_length : (places : List ℕ) → Way order bucket v b h h places → length places ≡ count_below (in_bucket bucket v b) n
  way_length places way =
      count_listed places (in_bucket bucket v b) n way.once
      (λ p i. within p (way.here p i).0)
      (λ p i. grind arith)
      (λ p t. let j : Here bucket v b p = (grind arith, grind arith) in way.all p j (around p j))

  -- the way from h round to h is the ring list
  ring_list : (places : List ℕ) × RingList order bucket v n b h places
  ring_list =
      let found = way_from (suc (count_below (ahead h) n)) h (omega arith) h-here in
      let places = found.0 in
      let way = found.1 in
      let fall = falls_back places way in
      let size = way_length places way in (
        places,
        record {
          starts = way.starts;
          closes = way.follows;
          all = λ p i k. way.all p (i, k) (around p (i, k));
          all_in_ring = λ p i. (way.here p i).0;
          all_in_bucket = λ p i. (way.here p i).1;
          once = way.once;
          top = fall.0;
          top_in = fall.1;
          falls = grind arith;
          rises = λ p i ne.
              elim (cases_Bool (rising order v p)) [
                | inl t ↦ t
                | inr f ↦ absurd (ne (one_fall p fall.0 (way.here p i) (way.here fall.0 fall.1) f fall.2))
              ];
          size = size;
          no_longer = let c = count_bounded (in_bucket bucket v b) n in omega arith;
        },
      )

module _ {K : Type 0} {order : K → K → Ordering} (laws : Lawful order) (bucket : K → ℕ) where
  -- the ring of a bucket from its head
  pub list_form : ListLaw order bucket
  list_form v n b h s within e = ring_list laws bucket v n b h s within (s.head_in_ring b h e, s.head_in_bucket b h e)
