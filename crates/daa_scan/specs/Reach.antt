-- Which aircraft are near enough to be met at all: a test of their places now, which clears most of them at once.
use Rattle.std.specs.Prelude.{ℕ, ℤ, pos, ◌+◌, ◌+ℤ◌, ◌*ℤ◌, ◌≤ℤ◌, ◌≡◌, unsigned_abs, slice_get, Some, false, ◌⊎◌}
use Rattle.std.specs.Int.{int_max}
use Rattle.daa_fixed.specs.declared.Solid.{Solid}
use Rattle.daa_fixed.specs.Leg.{minus}
use Rattle.daa_config.specs.declared.kind.Kind.TheVariants.{GroundSpeed, VerticalSpeed}
use Rattle.daa_config.specs.declared.level.Level.{Level}
use Rattle.daa_config.specs.Candidates.{least_of, greatest_of}
use Rattle.daa_config.specs.Settings.{Settings, IsLevelAt}
use Rattle.daa_state.specs.declared.word.Own.{Own}
use Rattle.daa_state.specs.declared.word.Traffic.{Traffic}
use Rattle.daa_state.specs.Picture.{aircraft_of}
use Rattle.daa_legs.specs.Errors.{are_exact}
use Rattle.daa_legs.specs.OwnLeg.{own_place}
use Rattle.daa_legs.specs.Relative.{traffic_place}
use Rattle.daa_scan.specs.SceneState.{SceneState, MeetsAt}

-- how large a number is, its sign left aside
abbrev pub size_of : ℤ → ℤ
size_of z = pos (unsigned_abs z)

-- the ownship minus the aircraft now, at second 0: the aircraft has flown on since its report
abbrev pub place_now : Own → Traffic → Solid
place_now own aircraft = minus (own_place own) (traffic_place aircraft 0)

module _ (settings : Settings) (own : Own) (aircraft : Traffic) where
  -- no relative speed east or north is greater: the greater of the present ground speed and the greatest that a candidate asks
  -- for, 1 by which rounded sines may lengthen a velocity (though no axis of it), and the aircraft's speeds
  abbrev pub horizontal_speed : ℤ
  horizontal_speed = int_max own.gs (greatest_of GroundSpeed settings) +ℤ pos 1 +ℤ size_of aircraft.vx +ℤ size_of aircraft.vy

  -- no relative vertical speed is greater: the greatest of the present one, those that candidates ask for and the rate at which a
  -- candidate goes to an altitude, and the aircraft's
  abbrev pub vertical_speed : ℤ
  vertical_speed =
      int_max (int_max (size_of own.vs) (size_of (least_of VerticalSpeed settings))) (int_max (size_of (greatest_of VerticalSpeed settings)) settings.numbers.alt.rate)
      +ℤ size_of aircraft.vs

-- what is at this place now, and nears at no more than these speeds, can enter the level's volume within its lookahead: on each axis
-- it is no farther off than the threshold and the way of the lookahead and of the time threshold
pub record CanEnter (level : Level) (place : Solid) (horizontal vertical : ℤ) : Type 0 where
  pub east : size_of place.flat.east ≤ℤ (pos level.volume.dthr +ℤ pos (level.volume.tthr + level.lookahead) *ℤ horizontal)
  pub north : size_of place.flat.north ≤ℤ (pos level.volume.dthr +ℤ pos (level.volume.tthr + level.lookahead) *ℤ horizontal)
  pub up : size_of place.up ≤ℤ (pos level.volume.zthr +ℤ pos (level.volume.tcoa + level.lookahead) *ℤ vertical)

-- some level's volume can be entered, as reported
pub record IsNearEnough (settings : Settings) (own : Own) (aircraft : Traffic) : Type 0 where
  pub number : ℕ
  pub level : Level
  pub there : IsLevelAt settings number level
  pub enters : CanEnter level (place_now own aircraft) (horizontal_speed settings own aircraft) (vertical_speed settings own aircraft)

-- the aircraft is in reach: some level's volume can be entered, or its report or the ownship's may err
abbrev pub IsInReach : Settings → Own → Traffic → Type 0
IsInReach settings own aircraft = (are_exact aircraft.bounds ≡ false) ⊎ IsNearEnough settings own aircraft

-- the aircraft at the place `at` of the moment's list is in reach
pub record IsInReachAt (s : SceneState) (at : ℕ) : Type 0 where
  pub aircraft : Traffic
  pub there : slice_get (aircraft_of s.picture) at ≡ Some aircraft
  pub reached : IsInReach s.settings s.picture.own aircraft

-- an aircraft that is not in reach is met by no candidate at any level, within the level's lookahead
abbrev pub NoneIsMetOutOfReach : SceneState → Type 0
NoneIsMetOutOfReach s = (index at l : ℕ) → MeetsAt s index at l → IsInReachAt s at
