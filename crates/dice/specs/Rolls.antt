-- The numbers that a seed gives, one after the other.
use Rattle.std.specs.Prelude.{ℕ, zero, suc, ◌+◌, ◌*◌, ◌/◌, ◌%◌, ◌^◌}

-- the state after a roll
abbrev pub after : ℕ → ℕ
after state = (6364136223846793005 * state + 1442695040888963407) % 2 ^ 64

-- what the roll gives: the upper half of that state
abbrev pub rolled : ℕ → ℕ
rolled state = after state / 2 ^ 32

-- a number below a bound, and the state then; there is no roll below 0
abbrev pub below : ℕ → ℕ → ℕ
below zero state = 0
below (suc n) state = rolled state % suc n

abbrev pub after_below : ℕ → ℕ → ℕ
after_below zero state = state
after_below (suc n) state = after state
