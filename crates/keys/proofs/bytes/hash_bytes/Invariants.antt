use Rattle.std.proofs.Common.{◌≡◌, take}
use Rattle.keys.specs.Bytes.{bytes_hash}
use Rattle.keys.proofs.bytes.hash_bytes.Given as goal

abbrev pub invariant-loop-b : goal.invariant-loop-b
invariant-loop-b l = l.h ≡ (bytes_hash (take l.b-index l.bytes)).value
