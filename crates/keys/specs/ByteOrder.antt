-- The order of two strings of bytes, from any byte on: the first byte that differs decides, and a string that begins another comes before it.
use Rattle.std.specs.Prelude.{◌≡◌, ℕ, ◌+◌, ◌<◌, ◌≤◌, List, length, drop, slice_index}
use Rattle.std.proofs.lemmas.List.{drop_more, drop_all}
use Rattle.std.specs.Cmp.Lexicographic.{slice_cmp}
use Rattle.std.specs.declared.cmp.Ordering.TheVariants.{Less, Equal, Greater}
use Rattle.std.specs.Ordering.{nat_cmp, ordering_then}

-- both strings have a byte at i
pub by_bytes_more : (xs ys : List ℕ) (i : ℕ) → i < length xs → i < length ys → slice_cmp nat_cmp (drop i xs) (drop i ys) ≡ ordering_then (nat_cmp (slice_index xs i) (slice_index ys i)) (slice_cmp nat_cmp (drop (i + 1) xs) (drop (i + 1) ys))
by_bytes_more xs ys i h k = rw (drop_more xs i 0, drop_more ys i 0)

pub by_bytes_longer : (xs ys : List ℕ) (i : ℕ) → i < length xs → length ys ≤ i → slice_cmp nat_cmp (drop i xs) (drop i ys) ≡ Greater
by_bytes_longer xs ys i h k = rw (drop_more xs i 0, drop_all i ys)

pub by_bytes_shorter : (xs ys : List ℕ) (i : ℕ) → length xs ≤ i → i < length ys → slice_cmp nat_cmp (drop i xs) (drop i ys) ≡ Less
by_bytes_shorter xs ys i h k = rw (drop_all i xs, drop_more ys i 0)

pub by_bytes_both : (xs ys : List ℕ) (i : ℕ) → length xs ≤ i → length ys ≤ i → slice_cmp nat_cmp (drop i xs) (drop i ys) ≡ Equal
by_bytes_both xs ys i h k = rw (drop_all i xs, drop_all i ys)
