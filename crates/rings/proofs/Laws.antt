-- The laws of rings, together.
use Rattle.std.proofs.Common.{◌≡◌, ℕ}
use Rattle.std.specs.declared.cmp.Ordering.{Ordering}
use Rattle.std.specs.declared.cmp.Ordering.TheVariants.{Equal}
use Rattle.keys.specs.Hashes.{Hash}
use Rattle.keys.specs.Orders.{Lawful}
use Rattle.keys.specs.Ranks.{LawfulKind, by_rank, bucket_of}
use Rattle.keys.proofs.RankOrder.{rank_laws}
use Rattle.rings.specs.Laws.{RingLaws}
use Rattle.rings.proofs.Linking.{link_keeps_sound, link_alone_keeps_sound}
use Rattle.rings.proofs.Nexts.{untouched_keeps_sound, next_one_to_one, alone_in_bucket, miss_is_right}
use Rattle.rings.proofs.Replacing.{replace_keeps_sound}
use Rattle.rings.proofs.Unlinking.{unlink_keeps_sound, unlink_last_keeps_sound}
use Rattle.rings.proofs.Walks.{list_form}

-- for any lawful order, and any buckets that alike keys share
pub ring_laws :
    {K : Type 0} {order : K → K → Ordering} → Lawful order → (bucket : K → ℕ) →
    ((a b : K) → order a b ≡ Equal → bucket a ≡ bucket b) → RingLaws order bucket
ring_laws {order = order} laws bucket alike_bucket = record {
  link = link_keeps_sound laws bucket alike_bucket;
  link_alone = link_alone_keeps_sound laws bucket alike_bucket;
  unlink = unlink_keeps_sound laws bucket;
  unlink_last = unlink_last_keeps_sound laws bucket;
  replace = replace_keeps_sound laws bucket alike_bucket;
  untouched = untouched_keeps_sound order bucket;
  miss = miss_is_right laws bucket alike_bucket;
  next_one_to_one = next_one_to_one laws bucket;
  alone = alone_in_bucket laws bucket;
  list_form = list_form laws bucket;
}

-- for the ranks and the buckets of any lawful kind, in an index of k head bits
pub rank_ring_laws :
    {K : Type 0} (order : K → K → Ordering) (digest : K → Hash) → LawfulKind order digest →
    (k : ℕ) → RingLaws (by_rank order digest k) (bucket_of order digest k)
rank_ring_laws order digest kind k =
    let ranks = rank_laws kind k in
    ring_laws ranks.lawful (bucket_of order digest k) (λ a b h. ranks.alike_bucket a b (ranks.equal_alike a b h))
