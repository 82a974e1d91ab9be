-- Counts of calls and of faults. A counter is a `u64` and stops at the greatest one.
use Rattle.std.specs.Prelude.{ℕ, ◌+◌, ◌-◌, ◌^◌, ◌<◌, ◌≤◌, ◌⊎◌, min}

-- the counter rose; at the greatest `u64`, where a counter stops, it counts as risen
abbrev pub HasRisen : (old new : ℕ) → Type 0
HasRisen old new = (old < new) ⊎ (2 ^ 64 ≤ new + 1)

-- one more, up to the greatest `u64`
abbrev pub one_more : ℕ → ℕ
one_more count = min (count + 1) (2 ^ 64 - 1)
