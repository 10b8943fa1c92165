-- A hash is a number of 16 bits. Its first k bits are its bucket, and the others its tag.
use Rattle.std.specs.Prelude.{ℕ, ◌-◌, ◌/◌, ◌%◌, ◌^◌, ◌<◌}
use Rattle.std.proofs.Common.{mod-lt, lit<}

-- a number from 0 to 65535
pub record Hash : Type 0 where
  pub value : ℕ
  pub small : value < 65536

-- a number taken mod 65536
abbrev pub hash16 : ℕ → Hash
hash16 n = record { value = n % 65536; small = mod-lt n (lit< tt) }

-- the quotient of a hash by 2 ^ (16 - k)
abbrev pub bucket : ℕ → ℕ → ℕ
bucket k hash = hash / 2 ^ (16 - k)

-- the remainder
abbrev pub tag : ℕ → ℕ → ℕ
tag k hash = hash % 2 ^ (16 - k)
