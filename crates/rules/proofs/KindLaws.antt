-- What the order of a kind's keys, their order by rank and their buckets have to do with each other.
use Rattle.std.proofs.Common.{◌≡◌, ℕ}
use Rattle.std.specs.declared.cmp.Ordering.{Ordering}
use Rattle.std.specs.declared.cmp.Ordering.TheVariants.{Equal}
use Rattle.keys.specs.Hashes.{Hash}
use Rattle.keys.specs.Orders.{Lawful}
use Rattle.keys.specs.Ranks.{LawfulKind, by_rank, bucket_of}
use Rattle.keys.proofs.RankOrder.{rank_laws}
pub use Rattle.keys.proofs.RankOrder.{lawful_kind}

pub record Kind {K : Type 0} (order rank : K → K → Ordering) (bucket : K → ℕ) : Type 0 where
  pub ordered : Lawful order
  pub ranked : Lawful rank
  pub same_rank : (a b : K) → rank a b ≡ Equal → order a b ≡ Equal
  pub rank_same : (a b : K) → order a b ≡ Equal → rank a b ≡ Equal
  pub one_bucket : (a b : K) → order a b ≡ Equal → bucket a ≡ bucket b

-- every lawful kind, in an index of k head bits
pub kind_of : {K : Type 0} (order : K → K → Ordering) (digest : K → Hash) → LawfulKind order digest → (k : ℕ) → Kind order (by_rank order digest k) (bucket_of order digest k)
kind_of order digest laws k =
    let r = rank_laws laws k in
    record { ordered = laws.ordered; ranked = r.lawful; same_rank = r.equal_alike; rank_same = r.alike_equal; one_bucket = r.alike_bucket }
