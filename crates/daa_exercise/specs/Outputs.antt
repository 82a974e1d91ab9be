-- The outputs of the generator, and what an output picks.
use Rattle.std.specs.Prelude.{ℕ, ℤ, pos, nat_abs, ◌+◌, ◌%◌, ◌+ℤ◌, ◌-ℤ◌}
use Rattle.rand_core.specs.Pcg32Seed.{pcg32_seed}
use Rattle.rand_pcg.specs.Lcg.{advance}
use Rattle.rand_pcg.specs.Pcg.{multiplier_64, pcg32, pcg32_of_seed}

-- the outputs of a seed, of 32 bits and numbered from 0: those that a PCG32 generator gives whose state and stream are the
-- 16 bytes that are made of the seed
unfoldable pub outputs_of : (seed number : ℕ) → ℕ
outputs_of seed number = (pcg32 (advance 64 multiplier_64 number (pcg32_of_seed (pcg32_seed 16 seed)))).0

-- the number from low to high, both ends counted, that an output picks: the least plus the output's remainder by how many there are
abbrev pub picked : (low high : ℤ) (output : ℕ) → ℤ
picked low high output = low +ℤ pos (output % (nat_abs (high -ℤ low) + 1))
