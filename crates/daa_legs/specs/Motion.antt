-- How the ownship moves on leg k of a candidate's flight, the second from k to k + 1: each value in closed form, from the
-- present one.
use Rattle.std.specs.Prelude.{ℕ, ℤ, pos, ◌-ℤ◌, ◌*ℤ◌, ◌+◌}
use Rattle.daa_fixed.specs.declared.Solid.{Solid}
use Rattle.daa_fixed.specs.Toward.{toward_of}
use Rattle.daa_heading.specs.Heading.{velocity_of}
use Rattle.daa_config.specs.declared.config.Rates.{Rates}
use Rattle.daa_config.specs.declared.candidate.Candidate.{Candidate}
use Rattle.daa_config.specs.declared.candidate.Candidate.TheVariants.{Track, GroundSpeed, VerticalSpeed, Altitude}
use Rattle.daa_state.specs.declared.word.Own.{Own}
use Rattle.daa_legs.specs.Turn.{turned}

module _ (own : Own) (rates : Rates) where
  -- the track: after k seconds the turn has come at most k times the turn rate toward that of the candidate, and never past it
  unfoldable pub track_on : Candidate → ℕ → ℤ
  track_on (Track c) k = turned own.trk c (pos k *ℤ rates.turn)
  track_on _ k = own.trk

  -- the ground speed: after k seconds it is at most k times the rate nearer to that of the candidate, and never past it
  unfoldable pub ground_speed_on : Candidate → ℕ → ℤ
  ground_speed_on (GroundSpeed g) k = toward_of own.gs g (pos k *ℤ rates.gs)
  ground_speed_on _ k = own.gs

  -- the height in units after k seconds on the way to an altitude of a feet
  abbrev pub height_after : ℤ → ℕ → ℤ
  height_after a k = toward_of (pos 60 *ℤ own.alt) (pos 60 *ℤ a) (pos k *ℤ rates.alt)

  -- the vertical speed; on the way to an altitude it is what that second rises, and the present one does not count
  unfoldable pub vertical_speed_on : Candidate → ℕ → ℤ
  vertical_speed_on (VerticalSpeed w) k = toward_of own.vs w (pos k *ℤ rates.vs)
  vertical_speed_on (Altitude a) k = height_after a (k + 1) -ℤ height_after a k
  vertical_speed_on _ k = own.vs

  -- the velocity of the track and the ground speed, with the vertical speed
  unfoldable pub velocity_on : Candidate → ℕ → Solid
  velocity_on candidate k = record {
    flat = velocity_of (ground_speed_on candidate k) (track_on candidate k);
    up = vertical_speed_on candidate k;
  }
