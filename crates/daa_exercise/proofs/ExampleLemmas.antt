-- The worked examples, computed.
use Rattle.std.proofs.Common.{◌≡◌, ◌∷◌, [], pos, neg_ℤ, refl}
use Rattle.std.specs.Prelude.{codes}
use Rattle.std.specs.Fmt.{digits}
use Rattle.rand_core.specs.Pcg32Seed.{pcg32_seed}
use Rattle.rand_core.specs.Steps.{first_words, u32_at, word_bytes}
use Rattle.rand_pcg.specs.Lcg.{state_after}
use Rattle.rand_pcg.specs.Pcg.{pcg32, pcg32_of_seed}
use Rattle.daa_state.specs.Bounds.{exact}
use Rattle.daa_state.specs.declared.word.Own.{Own}
use Rattle.daa_state.specs.declared.word.Traffic.{Traffic}
use Rattle.daa_exercise.specs.Levels.{counts_of}
use Rattle.daa_exercise.specs.Moments.{aircraft_at, begin_of, count_at, own_at}
use Rattle.daa_exercise.specs.Outputs.{outputs_of}

pub outputs : first_words pcg32 3 (pcg32_of_seed (pcg32_seed 16 7)) ≡ 2442223337 ∷ 414063806 ∷ 2743600285 ∷ []
unfolding first_words u32_at pcg32_seed word_bytes
outputs = refl

pub third : outputs_of 7 2 ≡ 2743600285
unfolding outputs_of state_after u32_at pcg32_seed word_bytes
third = refl

abbrev the_own : Own
the_own = record { x = pos 0; y = pos 0; alt = pos 1232; trk = pos 86; gs = pos 2732; vs = pos 1808 }

pub own : own_at (outputs_of 7) 0 ≡ the_own
unfolding own_at outputs_of state_after u32_at pcg32_seed word_bytes
own = refl

abbrev the_aircraft : Traffic
the_aircraft = record {
  id = codes "A1";
  x = pos 4580;
  y = pos 474;
  alt = pos 1225;
  vx = neg_ℤ (pos 2328);
  vy = neg_ℤ (pos 127);
  vs = neg_ℤ (pos 1150);
  age = 0;
  bounds = exact;
}

pub aircraft : aircraft_at (outputs_of 7) (pos 1232) 1 5 ≡ the_aircraft
unfolding aircraft_at digits outputs_of state_after u32_at pcg32_seed word_bytes
aircraft = refl

pub second : begin_of (outputs_of 7) 1 ≡ 23
unfolding begin_of count_at outputs_of state_after u32_at pcg32_seed word_bytes
second = refl

pub counts : counts_of 3 (0 ∷ 3 ∷ 0 ∷ 1 ∷ []) ≡ 2 ∷ 1 ∷ 0 ∷ 1 ∷ []
unfolding counts_of
counts = refl
