-- The cyclic order of keys, over any lawful order. What falls between c and n lies on the arc from c to n.
use Rattle.std.proofs.Common.{◌≡◌, true, false, arith}
use Rattle.std.specs.declared.cmp.Ordering.{Ordering}
use Rattle.std.specs.declared.cmp.Ordering.TheVariants.{Equal}
use Rattle.keys.specs.Orders.{Lawful}
use Rattle.rings.specs.Between.{below, at_most, between}

module _ {K : Type 0} {order : K → K → Ordering} (laws : Lawful order) where
  -- where a link splits an arc at x, the arc from c to x is a part of the old one
  pub arc_front : (c q x n : K) → between order c q x ≡ true → between order c x n ≡ true → between order c q n ≡ true
  unfolding between
  arc_front c q x n h k = grind arith

  -- and so is the arc from x to n
  pub arc_back : (c q x n : K) → between order x q n ≡ true → between order c x n ≡ true → between order c q n ≡ true
  unfolding between
  arc_back c q x n h k = grind arith

  -- where the removal of x joins two arcs, what lies on the new one lay on one of the two, or is alike to x
  pub arc_split : (c q x n : K) → between order c q n ≡ true → between order c q x ≡ false → between order x q n ≡ false → order q x ≡ Equal
  unfolding between
  arc_split c q x n h k l = grind arith

  -- a key lies on one arc of a ring: two arcs that hold x, and of which neither holds the other's start, start at alike keys
  pub arcs_with_one_key :
      (c n p m x : K) → between order c x n ≡ true → between order p x m ≡ true →
      between order c p n ≡ false → between order p c m ≡ false → order c p ≡ Equal
  unfolding between
  arcs_with_one_key c n p m x h k l r = grind arith

  -- an arc does not hold its start
  pub arc_without_start : (x n : K) → between order x x n ≡ false
  unfolding between
  arc_without_start x n = grind arith

  -- nor its end
  pub arc_without_end : (c x : K) → between order c x x ≡ false
  unfolding between
  arc_without_end c x = grind arith

  -- in a ring of one, the arc from a key round to itself leaves out only what is alike to the key
  pub arc_whole : (c q : K) → between order c q c ≡ false → order q c ≡ Equal
  unfolding between
  arc_whole c q h = grind arith

  -- a place has one predecessor: two arcs with one end, and of which neither holds the other's start, start at alike keys
  pub arcs_with_one_end : (c p n : K) → between order c p n ≡ false → between order p c n ≡ false → order c p ≡ Equal
  unfolding between
  arcs_with_one_end c p n h k = grind arith

  -- on the way from p to h the next comes first: if h is not on the arc from p to n, nor alike to n, n is on the arc from p to h
  pub arc_first : (p n h : K) → between order p h n ≡ false → (order n h ≡ Equal → ⊥) → between order p n h ≡ true
  unfolding between
  arc_first p n h k ne = grind arith

  -- a replacement changes no arc: alike keys lie on the same arcs
  pub alike_on_arc : (c q x n : K) → order q x ≡ Equal → between order c q n ≡ between order c x n
  unfolding between
  alike_on_arc c q x n e = grind arith

  -- and start the same arcs
  pub alike_arc_start : (c d q n : K) → order c d ≡ Equal → between order c q n ≡ between order d q n
  unfolding between
  alike_arc_start c d q n e = grind arith

  -- and end them
  pub alike_arc_end : (c q m n : K) → order m n ≡ Equal → between order c q m ≡ between order c q n
  unfolding between
  alike_arc_end c q m n e = grind arith

  -- a ring falls back from its highest key: the start of an arc that falls back is below nothing that the arc leaves out
  pub arc_top : (p n q : K) → below order p n ≡ false → between order p q n ≡ false → below order p q ≡ false
  unfolding between
  arc_top p n q f k = grind arith

  -- a step that does not rise falls back
  pub not_below : (a b : K) → below order a b ≡ false → at_most order b a ≡ true
  not_below a b h = grind arith

  -- two highest keys are alike
  pub neither_below : (a b : K) → below order a b ≡ false → below order b a ≡ false → order a b ≡ Equal
  neither_below a b h k = grind arith
