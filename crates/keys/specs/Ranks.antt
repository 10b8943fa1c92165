-- The rank of a key in an index of k head bits: its tag, then the key itself.
use Rattle.std.specs.Prelude.{◌≡◌, ℕ, ◌^◌, ◌<◌, ◌≤◌}
use Rattle.std.specs.declared.cmp.Ordering.{Ordering}
use Rattle.std.specs.declared.cmp.Ordering.TheVariants.{Equal}
use Rattle.std.specs.Ordering.{ordering_then, nat_cmp}
use Rattle.keys.specs.Hashes.{Hash, bucket, tag}
use Rattle.keys.specs.Orders.{Lawful}

module _ {K : Type 0} (order : K → K → Ordering) (digest : K → Hash) where
  -- the laws of a lawful kind: those of its order, and that alike keys have equal hashes
  pub record LawfulKind : Type 0 where
    pub ordered : Lawful order
    pub alike_hash : (a b : K) → order a b ≡ Equal → (digest a).value ≡ (digest b).value

  -- the bucket and the tag of a key
  abbrev pub bucket_of : ℕ → K → ℕ
  bucket_of k a = bucket k (digest a).value

  abbrev pub tag_of : ℕ → K → ℕ
  tag_of k a = tag k (digest a).value

  -- the order of two keys by rank
  abbrev pub by_rank : ℕ → K → K → Ordering
  by_rank k a b = ordering_then (nat_cmp (tag_of k a) (tag_of k b)) (order a b)

  -- the rank is a lawful order again; equal ranks and alike keys are the same thing; alike keys lie in
  -- one bucket; and there are 2 ^ k buckets
  pub record RankLaws (k : ℕ) : Type 0 where
    pub lawful : Lawful (by_rank k)
    pub equal_alike : (a b : K) → by_rank k a b ≡ Equal → order a b ≡ Equal
    pub alike_equal : (a b : K) → order a b ≡ Equal → by_rank k a b ≡ Equal
    pub alike_bucket : (a b : K) → order a b ≡ Equal → bucket_of k a ≡ bucket_of k b
    pub bucket_small : (a : K) → k ≤ 16 → bucket_of k a < 2 ^ k
