-- The hash of a string of bytes.
use Rattle.std.specs.Prelude.{ℕ, ◌+◌, ◌*◌, List, fold}
use Rattle.keys.specs.Hashes.{Hash, hash16}

-- from 0 on, each byte turns h into (31 × h + byte) mod 65536
abbrev pub bytes_hash : List ℕ → Hash
bytes_hash bs = fold (λ h b. hash16 (31 * h.value + b)) (hash16 0) bs
