-- What each move changes in a table's rings, from a view v to a view w.
use Rattle.std.specs.Prelude.{◌≡◌, ℕ, true, false, Some, None, ◌≢◌}
use Rattle.rings.specs.Rings.{View}

module _ {K : Type 0} (v w : View K) where
  -- x is linked in behind c, before what was c's next
  pub record Linked (c x : ℕ) : Type 0 where
    pub keys : (p : ℕ) → w.key p ≡ v.key p
    pub heads : (b : ℕ) → w.head b ≡ v.head b
    pub entered : w.in_ring x ≡ true
    pub others : (p : ℕ) → (p ≢ x) → w.in_ring p ≡ v.in_ring p
    pub behind : w.next c ≡ x
    pub ahead : w.next x ≡ v.next c
    pub rest : (p : ℕ) → (p ≢ x) → (p ≢ c) → w.next p ≡ v.next p

  -- x is linked in alone, as the head of the bucket b
  pub record LinkedAlone (b x : ℕ) : Type 0 where
    pub keys : (p : ℕ) → w.key p ≡ v.key p
    pub entered : w.in_ring x ≡ true
    pub others : (p : ℕ) → (p ≢ x) → w.in_ring p ≡ v.in_ring p
    pub alone : w.next x ≡ x
    pub rest : (p : ℕ) → (p ≢ x) → w.next p ≡ v.next p
    pub headed : w.head b ≡ Some x
    pub heads : (a : ℕ) → (a ≢ b) → w.head a ≡ v.head a

  -- p, the next of c, is taken out; a head that was p becomes p's next
  pub record Unlinked (c p : ℕ) : Type 0 where
    pub keys : (q : ℕ) → w.key q ≡ v.key q
    pub left : w.in_ring p ≡ false
    pub others : (q : ℕ) → (q ≢ p) → w.in_ring q ≡ v.in_ring q
    pub behind : w.next c ≡ v.next p
    pub rest : (q : ℕ) → (q ≢ p) → (q ≢ c) → w.next q ≡ v.next q
    pub headed : (b : ℕ) → v.head b ≡ Some p → w.head b ≡ Some (v.next p)
    pub heads : (b : ℕ) → (v.head b ≢ Some p) → w.head b ≡ v.head b

  -- p, which is its own next, is taken out; a head that was p is gone
  pub record UnlinkedLast (p : ℕ) : Type 0 where
    pub keys : (q : ℕ) → w.key q ≡ v.key q
    pub left : w.in_ring p ≡ false
    pub others : (q : ℕ) → (q ≢ p) → w.in_ring q ≡ v.in_ring q
    pub rest : (q : ℕ) → (q ≢ p) → w.next q ≡ v.next q
    pub headless : (b : ℕ) → v.head b ≡ Some p → w.head b ≡ None
    pub heads : (b : ℕ) → (v.head b ≢ Some p) → w.head b ≡ v.head b

  -- x takes the place of p, the next of c, in the ring; c may be p, which is then its own next
  pub record Replaced (c p x : ℕ) : Type 0 where
    pub keys : (q : ℕ) → w.key q ≡ v.key q
    pub left : w.in_ring p ≡ false
    pub entered : w.in_ring x ≡ true
    pub others : (q : ℕ) → (q ≢ p) → (q ≢ x) → w.in_ring q ≡ v.in_ring q
    pub behind : (c ≢ p) → w.next c ≡ x
    pub ahead : (v.next p ≢ p) → w.next x ≡ v.next p
    pub alone : v.next p ≡ p → w.next x ≡ x
    pub rest : (q : ℕ) → (q ≢ p) → (q ≢ c) → (q ≢ x) → w.next q ≡ v.next q
    pub headed : (b : ℕ) → v.head b ≡ Some p → w.head b ≡ Some x
    pub heads : (b : ℕ) → (v.head b ≢ Some p) → w.head b ≡ v.head b

  -- what is in ring stays as it is; only keys and nexts of places out of ring may change
  pub record Untouched : Type 0 where
    pub same : (p : ℕ) → w.in_ring p ≡ v.in_ring p
    pub keys : (p : ℕ) → v.in_ring p ≡ true → w.key p ≡ v.key p
    pub nexts : (p : ℕ) → v.in_ring p ≡ true → w.next p ≡ v.next p
    pub heads : (b : ℕ) → w.head b ≡ v.head b
