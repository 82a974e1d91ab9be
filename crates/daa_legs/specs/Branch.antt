-- How a candidate's flight leaves the one that leads on its side: before some leg both fly alike, and from that leg or the next on
-- the candidate flies straight on.
use Rattle.std.specs.Prelude.{◌≡◌, ℕ, ℤ, ◌<◌, ◌≤◌, pos, negsuc, ◌+ℤ◌, Bool, if◌then◌else◌}
use Rattle.std.specs.Int.{int_rem_euclid}
use Rattle.daa_fixed.specs.declared.Solid.{Solid}
use Rattle.daa_heading.specs.Heading.{velocity_of}
use Rattle.daa_config.specs.declared.config.Rates.{Rates}
use Rattle.daa_config.specs.declared.candidate.Candidate.{Candidate}
use Rattle.daa_config.specs.declared.candidate.Candidate.TheVariants.{Hold, Track, GroundSpeed, VerticalSpeed, Altitude}
use Rattle.daa_state.specs.declared.word.Own.{Own}
use Rattle.daa_legs.specs.Motion.{velocity_on}

-- the flight that leads on the candidate's side: half a turn to the right or a degree less to the left, or to the greatest or
-- the least value that may be asked for
unfoldable pub lead_of : Own → Candidate → (upper : Bool) → Candidate
lead_of own Hold upper = Hold
lead_of own (Track c) upper = Track (int_rem_euclid (own.trk +ℤ (if upper then pos 180 else pos 181)) (pos 360))
lead_of own (GroundSpeed g) upper = GroundSpeed (if upper then pos 10000 else pos 0)
lead_of own (VerticalSpeed w) upper = VerticalSpeed (if upper then pos 10000 else negsuc 9999)
lead_of own (Altitude a) upper = Altitude (if upper then pos 60000 else negsuc 1999)

-- the rate at which the candidate's value changes, if it has one
abbrev pub rate_for : Rates → Candidate → ℤ
rate_for rates Hold = rates.turn
rate_for rates (Track c) = rates.turn
rate_for rates (GroundSpeed g) = rates.gs
rate_for rates (VerticalSpeed w) = rates.vs
rate_for rates (Altitude a) = rates.alt

-- the velocity at which a candidate flies on once its value is reached
unfoldable pub velocity_there : Own → Candidate → Solid
velocity_there own Hold = record { flat = velocity_of own.gs own.trk; up = own.vs }
velocity_there own (Track c) = record { flat = velocity_of own.gs c; up = own.vs }
velocity_there own (GroundSpeed g) = record { flat = velocity_of g own.trk; up = own.vs }
velocity_there own (VerticalSpeed w) = record { flat = velocity_of own.gs own.trk; up = w }
velocity_there own (Altitude a) = record { flat = velocity_of own.gs own.trk; up = pos 0 }

module _ (own : Own) (rates : Rates) where
  -- before leg n the candidate flies as the other does
  pub record FliesAs (candidate other : Candidate) (n : ℕ) : Type 0 where
    pub same : (k : ℕ) → k < n → velocity_on own rates candidate k ≡ velocity_on own rates other k

  -- from leg n on it has the velocity at which it flies on once its value is reached
  pub record FliesOn (candidate : Candidate) (n : ℕ) : Type 0 where
    pub there : (k : ℕ) → n ≤ k → velocity_on own rates candidate k ≡ velocity_there own candidate
