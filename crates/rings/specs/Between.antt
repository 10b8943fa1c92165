-- When a key falls between the key of an item on a ring and that of the item's next, over any order.
use Rattle.std.specs.Prelude.{Bool, ◌&&◌, ◌||◌}
use Rattle.std.specs.declared.cmp.Ordering.{Ordering}
use Rattle.std.specs.Ordering.{is_lt, is_le}

module _ {K : Type 0} (order : K → K → Ordering) where
  -- a < b: a is before b
  abbrev pub below : K → K → Bool
  below a b = is_lt (order a b)

  -- a ≤ b: a is not after b
  abbrev pub at_most : K → K → Bool
  at_most a b = is_le (order a b)

  -- q falls between c and its next n: c < q < n, or q < n ≤ c, or n ≤ c < q
  unfoldable pub between : K → K → K → Bool
  between c q n = (below c q && below q n) || (below q n && at_most n c) || (at_most n c && below c q)
