-- The rings that lie in a table of items, and when they are sound.
use Rattle.std.specs.Prelude.{◌≡◌, ℕ, Bool, true, false, Some, None, Option, ◌≢◌}
use Rattle.std.specs.declared.cmp.Ordering.{Ordering}
use Rattle.std.specs.declared.cmp.Ordering.TheVariants.{Equal}
use Rattle.rings.specs.Between.{between}

-- a table as its rings see it: by place, whether the item there is in ring, its key and the place of its next; by bucket, the head
pub record View (K : Type 0) : Type 0 where
  pub in_ring : ℕ → Bool
  pub key : ℕ → K
  pub next : ℕ → ℕ
  pub head : ℕ → Option ℕ

-- each next is in ring and in the same bucket, and nothing in ring in that bucket falls between a place and its next;
-- no two places in ring have alike keys; a head is in ring in its bucket, and a bucket with no head has nothing in ring
pub record Sound {K : Type 0} (order : K → K → Ordering) (bucket : K → ℕ) (v : View K) : Type 0 where
  pub next_in_ring : (p : ℕ) → v.in_ring p ≡ true → v.in_ring (v.next p) ≡ true
  pub next_in_bucket : (p : ℕ) → v.in_ring p ≡ true → bucket (v.key (v.next p)) ≡ bucket (v.key p)
  pub nothing_between : (p q : ℕ) → v.in_ring p ≡ true → v.in_ring q ≡ true → bucket (v.key q) ≡ bucket (v.key p) →
      between order (v.key p) (v.key q) (v.key (v.next p)) ≡ false
  pub unlike : (p q : ℕ) → v.in_ring p ≡ true → v.in_ring q ≡ true → order (v.key p) (v.key q) ≡ Equal → p ≡ q
  pub head_in_ring : (b h : ℕ) → v.head b ≡ Some h → v.in_ring h ≡ true
  pub head_in_bucket : (b h : ℕ) → v.head b ≡ Some h → bucket (v.key h) ≡ b
  pub no_head : (p : ℕ) → v.in_ring p ≡ true → v.head (bucket (v.key p)) ≢ None
