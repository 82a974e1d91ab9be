-- What is drawn from a place on, and what a draw leaves of a generator.
use Rattle.std.specs.Prelude.{ℕ, ℤ, ◌≡◌, ◌≤ℤ◌, ◌-ℤ◌, ◌+◌, ◌*◌, pos, List, ◌++◌, map, codes, decimal}
use Rattle.std.specs.List.{range_with_len}
use Rattle.rand_core.specs.Pcg32Seed.{pcg32_seed}
use Rattle.rand_pcg.specs.Lcg.{Lcg, advance}
use Rattle.rand_pcg.specs.Pcg.{multiplier_64, pcg32, pcg32_of_seed}
use Rattle.daa_state.specs.declared.word.Traffic.{Traffic}
use Rattle.daa_state.specs.declared.word.Picture.{Picture}
use Rattle.daa_exercise.specs.declared.draws.Bounds.{Bounds}
use Rattle.daa_exercise.specs.Moments.{own_at, count_at, aircraft_at, begin_of}

-- ---- the generator

-- outputs of 32 bits, numbered from 0
abbrev pub Outputs : Type 0
Outputs = ℕ → ℕ

-- the outputs that a PCG32 generator gives, from the present state on
unfoldable pub outputs_from : Lcg → Outputs
outputs_from generator k = (pcg32 (advance 64 multiplier_64 k generator)).0

-- the generator of a seed
unfoldable pub generator_of : ℕ → Lcg
generator_of seed = pcg32_of_seed (pcg32_seed 16 seed)

-- the generator after this number of outputs
unfoldable pub after : ℕ → Lcg → Lcg
after n generator = advance 64 multiplier_64 n generator

-- the generator of a seed after the outputs of the moments before a time
abbrev pub IsDrawnTo : (seed time : ℕ) → Lcg → Type 0
IsDrawnTo seed time draws = draws ≡ after (begin_of (outputs_from (generator_of seed)) time) (generator_of seed)

-- bounds of at least one number and fewer than 2 ^ 31
pub record AreBounds (bounds : Bounds) : Type 0 where
  pub ordered : bounds.low ≤ℤ bounds.high
  pub short : (bounds.high -ℤ bounds.low) ≤ℤ pos 2147483646

-- ---- the parts of a moment

-- the name of the aircraft of a number
abbrev pub name_of : ℕ → List ℕ
name_of number = codes "A" ++ decimal number

module _ (output : Outputs) where
  -- this number of aircraft, one after the other, numbered from 1
  unfoldable pub traffic_at : ℤ → ℕ → ℕ → List Traffic
  traffic_at own_altitude count at = map (λ i. aircraft_at output own_altitude (i + 1) (at + 6 * i)) (range_with_len 0 count)

  -- the moment of a time, of the draws from a place on
  unfoldable pub moment_at : ℕ → ℕ → Picture
  moment_at time at = record {
    time = time;
    own = own_at output at;
    traffic = record { items = traffic_at (own_at output at).alt (count_at output at) (at + 5) };
  }

  -- how many draws it takes
  abbrev pub draws_at : ℕ → ℕ
  draws_at at = 5 + 6 * count_at output at
