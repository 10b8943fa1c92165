-- How one key stands to another: Less is before, Equal is alike, Greater is after. The laws of an order, and what follows from them.
use Rattle.std.specs.Prelude.{◌≡◌, false, ◌⊎◌}
use Rattle.std.specs.declared.cmp.Ordering.{Ordering}
use Rattle.std.specs.declared.cmp.Ordering.TheVariants.{Less, Equal}
use Rattle.std.specs.Ordering.{is_lt, is_gt}

-- the two laws of a lawful order: one key is before another exactly when the other is after it;
-- and if the first is not after the second, nor the second after the third, the first is not after the third
pub record Lawful {K : Type 0} (order : K → K → Ordering) : Type 0 where
  pub turned : (a b : K) → is_lt (order a b) ≡ is_gt (order b a)
  pub chained : (a b c : K) → is_gt (order a b) ≡ false → is_gt (order b c) ≡ false → is_gt (order a c) ≡ false

-- what follows for every lawful order: alike is an equivalence, before is transitive, and of two keys
-- one is before the other or they are alike; alike keys stand in the same way to every third
pub record TotalPreorder {K : Type 0} (order : K → K → Ordering) : Type 0 where
  pub alike_itself : (a : K) → order a a ≡ Equal
  pub alike_turned : (a b : K) → order a b ≡ Equal → order b a ≡ Equal
  pub alike_chained : (a b c : K) → order a b ≡ Equal → order b c ≡ Equal → order a c ≡ Equal
  pub before_chained : (a b c : K) → order a b ≡ Less → order b c ≡ Less → order a c ≡ Less
  pub one_of_three : (a b : K) → (order a b ≡ Less) ⊎ ((order a b ≡ Equal) ⊎ (order b a ≡ Less))
  pub alike_left : (a b c : K) → order a b ≡ Equal → order a c ≡ order b c
  pub alike_right : (a b c : K) → order a b ≡ Equal → order c a ≡ order c b
