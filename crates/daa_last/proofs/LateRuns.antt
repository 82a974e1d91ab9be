-- A run of a delayed flight is one long leg.
use Rattle.std.proofs.Common.{◌≡◌, ◌↔◌, ℕ, zero, suc, ◌+◌, ◌-◌, ◌<◌, ◌≤◌, ap, sym, subst, ◌∙◌, arith, ℤ, pos, ◌+ℤ◌, ◌*ℤ◌}
use Rattle.std.proofs.lemmas.Int.{ints}
use Rattle.daa_fixed.specs.declared.Solid.{Solid}
use Rattle.daa_fixed.specs.declared.Leg.{Leg}
use Rattle.daa_fixed.specs.Leg.{plus, times}
use Rattle.daa_fixed.specs.Time.{HoldsSometime}
use Rattle.daa_taumod.specs.declared.Volume.{Volume}
use Rattle.daa_config.specs.declared.config.Rates.{Rates}
use Rattle.daa_config.specs.declared.candidate.Candidate.{Candidate}
use Rattle.daa_config.specs.Settings.{Settings, rates_of}
use Rattle.daa_state.specs.declared.word.Own.{Own}
use Rattle.daa_state.specs.declared.word.Traffic.{Traffic}
use Rattle.daa_legs.specs.declared.own_leg.OwnLeg.{OwnLeg}
use Rattle.daa_legs.specs.declared.own_leg.OwnRun.{OwnRun}
use Rattle.daa_margin.specs.Later.{second_of}
use Rattle.daa_legs.specs.Relative.{relative_for}
use Rattle.daa_legs.specs.Runs.{first_leg_of}
use Rattle.daa_legs.specs.Violating.{ViolatesBy}
use Rattle.daa_legs.proofs.Seconds.{IsOnSecond, leg_seconds, second_seen}
use Rattle.daa_last.specs.Delayed.{velocity_delayed, place_delayed, leg_delayed}
use Rattle.daa_last.specs.Inside.Search.{MeetsLate}
use Rattle.daa_last.proofs.Delays.{next_place}

-- the run is the legs from k on, which all have its velocity
pub record IsLateRun (own : Own) (rates : Rates) (m : ℕ) (candidate : Candidate) (k : ℕ) (run : OwnRun) : Type 0 where
  pub begins : run.place ≡ place_delayed own rates m candidate k
  pub same : (j : ℕ) → j < run.secs → velocity_delayed own rates m candidate (k + j) ≡ run.velocity

module _ (own : Own) (rates : Rates) (m : ℕ) (candidate : Candidate) where
  -- the place after no second, and after one more
  pub at_first : (k : ℕ) (place velocity : Solid) → place ≡ place_delayed own rates m candidate k → place_delayed own rates m candidate (k + 0) ≡ plus place (times (pos 0) velocity)
  at_first k place velocity e =
      let none : k + 0 ≡ k = omega arith in
      ap (place_delayed own rates m candidate) none ∙ sym e ∙ (λ i. record {
        flat = record { east = start place.flat.east velocity.flat.east i; north = start place.flat.north velocity.flat.north i };
        up = start place.up velocity.up i;
      })
    where
      start : (x v : ℤ) → x ≡ x +ℤ pos 0 *ℤ v
      start x v = omega (arith, ints)

  pub at_next : (k j : ℕ) (place velocity : Solid) → place_delayed own rates m candidate (k + j) ≡ plus place (times (pos j) velocity)
      → velocity_delayed own rates m candidate (k + j) ≡ velocity → place_delayed own rates m candidate (k + suc j) ≡ plus place (times (pos (suc j)) velocity)
  at_next k j place velocity before moves =
      let one : k + suc j ≡ k + j + 1 = omega arith in
      ap (place_delayed own rates m candidate) one
      ∙ sym (next_place own rates m candidate (k + j))
      ∙ (λ i. plus (before i) (moves i))
      ∙ (λ i. record {
        flat = record { east = step place.flat.east velocity.flat.east j i; north = step place.flat.north velocity.flat.north j i };
        up = step place.up velocity.up j i;
      })
    where
      step : (x v : ℤ) (j : ℕ) → (x +ℤ pos j *ℤ v) +ℤ v ≡ x +ℤ pos (suc j) *ℤ v
      step x v j = omega (arith, ints)

  module _ (k : ℕ) (run : OwnRun) (r : IsLateRun own rates m candidate k run) where
    -- the place after j of the run's seconds
    pub late_within : (j : ℕ) → j ≤ run.secs → place_delayed own rates m candidate (k + j) ≡ plus run.place (times (pos j) run.velocity)
    late_within zero h = at_first k run.place run.velocity r.begins
    late_within (suc j) h = at_next k j run.place run.velocity (late_within j (omega (arith, h))) (r.same j (omega (arith, h)))

module _ (settings : Settings) (own : Own) (candidate : Candidate) (m : ℕ) (aircraft : Traffic) (volume : Volume) (k : ℕ) (run : OwnRun)
    (r : IsLateRun own (rates_of settings) m candidate k run) where
  abbrev long : Leg
  long = relative_for run.secs (first_leg_of run) aircraft k

  abbrev leg_on : ℕ → OwnLeg
  leg_on j = leg_delayed own (rates_of settings) m candidate j

  abbrev seen_on : ℕ → Leg
  seen_on j = relative_for 1 (leg_on j) aircraft j

  second_is : (j : ℕ) → j < run.secs → seen_on (k + j) ≡ second_of long j
  second_is j h = second_seen aircraft k j run (leg_on (k + j)) (late_within own (rates_of settings) m candidate k run r j (omega (arith, h))) (r.same j h)

  pub late_seconds : 1 ≤ run.secs → HoldsSometime run.secs (ViolatesBy aircraft k (relative_for run.secs (first_leg_of run) aircraft k) volume)
      ↔ MeetsLate settings own candidate m aircraft volume k (k + run.secs)
  unfolding relative_for
  late_seconds some = let s = leg_seconds aircraft volume k long (λ j. seen_on (k + j)) second_is some in (
    (λ x. let y = s.0 x in record { leg = k + y.second; not_before = omega arith; before = next y.second y.before; violates = y.holds }),
    (λ x. s.1 (back x.leg x.not_before x.before x.violates)),
  )
    where
      next : (j : ℕ) → j < run.secs → k + j < k + run.secs
      next j h = omega (arith, h)

      back : (leg : ℕ) → k ≤ leg → leg < k + run.secs → HoldsSometime 1 (ViolatesBy aircraft leg (seen_on leg) volume)
          → IsOnSecond aircraft volume k run.secs (λ j. seen_on (k + j))
      back leg from upto x =
          let j : ℕ = leg - k in
          let same : leg ≡ k + j = omega (arith, from) in
          record {
            second = j;
            before = omega (arith, from, upto);
            holds = subst (λ (i : ℕ). HoldsSometime 1 (ViolatesBy aircraft i (seen_on i) volume)) same x;
          }
