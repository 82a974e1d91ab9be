-- A candidate's flight that begins late: for m seconds the present flight, Hold, is kept, and then the candidate's is begun at Hold's
-- place at second m.
use Rattle.std.specs.Prelude.{ℕ, ℤ, pos, ◌+◌, ◌-◌, ◌-ℤ◌, ◌*ℤ◌, nat_lt, if◌then◌else◌}
use Rattle.daa_fixed.specs.declared.Solid.{Solid}
use Rattle.daa_fixed.specs.Leg.{plus, sum_below}
use Rattle.daa_fixed.specs.Time.{HoldsSometime}
use Rattle.daa_fixed.specs.Toward.{toward_of}
use Rattle.daa_taumod.specs.declared.Volume.{Volume}
use Rattle.daa_config.specs.declared.config.Rates.{Rates}
use Rattle.daa_config.specs.declared.candidate.Candidate.{Candidate}
use Rattle.daa_config.specs.declared.candidate.Candidate.TheVariants.{Hold, Altitude}
use Rattle.daa_config.specs.Settings.{Settings, rates_of}
use Rattle.daa_state.specs.declared.word.Own.{Own}
use Rattle.daa_state.specs.declared.word.Traffic.{Traffic}
use Rattle.daa_legs.specs.declared.own_leg.OwnLeg.{OwnLeg}
use Rattle.daa_legs.specs.Motion.{vertical_speed_on, velocity_on}
use Rattle.daa_legs.specs.OwnLeg.{own_place, place_on}
use Rattle.daa_legs.specs.Relative.{relative_for}
use Rattle.daa_legs.specs.Violating.{ViolatesBy}

module _ (own : Own) (rates : Rates) (m : ℕ) where
  -- the height in units, j seconds after second m, on the way from Hold's height at second m to altitude `a`, in feet
  abbrev pub height_since : ℤ → ℕ → ℤ
  height_since a j = toward_of (place_on own rates Hold m).up (pos 60 *ℤ a) (pos j *ℤ rates.alt)

  -- the vertical speed on the leg that begins j seconds after second m: that of the candidate's leg j; to an altitude, what the way from
  -- Hold's height at second m rises in that second
  unfoldable pub vertical_speed_since : Candidate → ℕ → ℤ
  vertical_speed_since (Altitude a) j = height_since a (j + 1) -ℤ height_since a j
  vertical_speed_since candidate j = vertical_speed_on own rates candidate j

  -- the velocity on that leg: over ground that of the candidate's leg j
  unfoldable pub velocity_since : Candidate → ℕ → Solid
  velocity_since candidate j = record { flat = (velocity_on own rates candidate j).flat; up = vertical_speed_since candidate j }

  -- the velocity on leg k: before leg m that of Hold, from leg m on that of the flight begun at second m
  unfoldable pub velocity_delayed : Candidate → ℕ → Solid
  velocity_delayed candidate k = if nat_lt k m then velocity_on own rates Hold k else velocity_since candidate (k - m)

  -- where the ownship is at the beginning of leg k: its place now, and the velocities of the legs before k
  unfoldable pub place_delayed : Candidate → ℕ → Solid
  place_delayed candidate k = plus (own_place own) (sum_below (velocity_delayed candidate) k)

  -- leg k of the candidate's flight, delayed by m seconds
  abbrev pub leg_delayed : Candidate → ℕ → OwnLeg
  leg_delayed candidate k = record { place = place_delayed candidate k; velocity = velocity_delayed candidate k }

module _ (settings : Settings) (own : Own) (candidate : Candidate) (m : ℕ) (aircraft : Traffic) where
  -- the volume is violated at some time of leg k, one second, as the aircraft sees it, its beginning and its end among them
  abbrev pub ViolatesDelayed : Volume → ℕ → Type 0
  ViolatesDelayed volume k = HoldsSometime 1 (ViolatesBy aircraft k (relative_for 1 (leg_delayed own (rates_of settings) m candidate k) aircraft k) volume)
