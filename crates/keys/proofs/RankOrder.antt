-- The order by rank, over any lawful kind.
use Rattle.std.proofs.Common.{◌≡◌, ℕ, ◌+◌, ◌-◌, ◌*◌, ◌^◌, ◌<◌, ◌≤◌, false, sym, ap, ◌∙◌, div-lt_iff_lt-mul, arith, pow_pos, pow-add}
use Rattle.std.proofs.lemmas.Bool.Decides.{nat_tests}
use Rattle.std.specs.Cmp.{nat_cmp_total, on_total, then_total}
use Rattle.std.specs.declared.cmp.Ordering.{Ordering}
use Rattle.std.specs.declared.cmp.Ordering.TheVariants.{Equal}
use Rattle.std.specs.Ordering.{is_lt, is_eq, is_gt, ordering_then, nat_cmp}
use Rattle.keys.specs.Hashes.{Hash, bucket, tag}
use Rattle.keys.specs.Orders.{Lawful}
use Rattle.keys.specs.Ranks.{LawfulKind, RankLaws, by_rank, tag_of}
use Rattle.keys.specs.TotalOrders.{lawful_total}
use Rattle.keys.proofs.Preorders.{total_order}

-- a number first, and then an order: lawful again
pub number_first : {K : Type 0} {order : K → K → Ordering} → Lawful order → (number : K → ℕ) → Lawful (λ a b. ordering_then (nat_cmp (number a) (number b)) (order a b))
number_first laws number = lawful_total (then_total (on_total number nat_cmp_total) (total_order laws))

-- 2 ^ k buckets hold all of 16 bits
pub bucket_small : (k : ℕ) (h : Hash) → k ≤ 16 → bucket k h.value < 2 ^ k
bucket_small k h le =
    let all : k + (16 - k) ≡ 16 = omega arith in
    let whole : 2 ^ k * 2 ^ (16 - k) ≡ 65536 = sym (pow-add 2 k (16 - k)) ∙ ap (λ n. 2 ^ n) all in
    let s = h.small in
    (div-lt_iff_lt-mul {k = 2 ^ (16 - k)} {x = h.value} {y = 2 ^ k} (pow_pos (16 - k))).1 (omega arith)

-- a kind that shows the three laws is lawful
pub lawful_kind : {K : Type 0} {order : K → K → Ordering} {digest : K → Hash} →
    ((a b : K) → is_lt (order a b) ≡ is_gt (order b a)) →
    ((a b c : K) → is_gt (order a b) ≡ false → is_gt (order b c) ≡ false → is_gt (order a c) ≡ false) →
    ((a b : K) → order a b ≡ Equal → (digest a).value ≡ (digest b).value) →
    LawfulKind order digest
lawful_kind turned chained hashed = record { ordered = record { turned = turned; chained = chained }; alike_hash = hashed }

module _ {K : Type 0} {order : K → K → Ordering} {digest : K → Hash} (laws : LawfulKind order digest) (k : ℕ) where
  pub rank_laws : RankLaws order digest k
  rank_laws = record {
    lawful = number_first laws.ordered (tag_of order digest k);
    equal_alike = λ a b h. grind (arith, nat_tests);
    alike_equal = λ a b h. let e = ap (tag k) (laws.alike_hash a b h) in grind (arith, nat_tests);
    alike_bucket = λ a b h. ap (bucket k) (laws.alike_hash a b h);
    bucket_small = λ a le. bucket_small k (digest a) le;
  }

  -- alike keys have equal tags, so the keys alone tell whether they have one rank
  pub one_rank : (a b : K) → is_eq (order a b) ≡ is_eq (by_rank order digest k a b)
  one_rank a b = let e = rank_laws.equal_alike a b in let f = rank_laws.alike_equal a b in grind (arith, nat_tests)
