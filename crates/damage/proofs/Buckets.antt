-- How many buckets few head bits make.
use Rattle.std.proofs.Common.{ℕ, zero, suc, arith, ◌*◌, ◌%◌, ◌^◌, ◌<◌, ◌≤◌}

pub few : (bits : ℕ) → bits < 4 → (0 < 1 * 2 ^ bits % 4294967296) × (1 * 2 ^ bits % 4294967296 ≤ 10)
few zero p = grind arith
few (suc zero) p = grind arith
few (suc (suc zero)) p = grind arith
few (suc (suc (suc zero))) p = grind arith
few (suc (suc (suc (suc n)))) p = grind arith
