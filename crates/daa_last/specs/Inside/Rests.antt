-- What is left of a delayed flight, and the velocity of its next second, told from where it is.
use Rattle.std.specs.Prelude.{ℕ, pos, ◌≡◌, ◌≤◌, ◌-ℤ◌, ◌*ℤ◌, nat_lt, if◌then◌else◌}
use Rattle.daa_fixed.specs.declared.Solid.{Solid}
use Rattle.daa_fixed.specs.Toward.{toward_of}
use Rattle.daa_config.specs.declared.config.Rates.{Rates}
use Rattle.daa_config.specs.declared.candidate.Candidate.{Candidate}
use Rattle.daa_config.specs.declared.candidate.Candidate.TheVariants.{Altitude}
use Rattle.daa_config.specs.Settings.{IsCandidateInRange}
use Rattle.daa_state.specs.declared.word.Own.{Own}
use Rattle.daa_legs.specs.Motion.{velocity_on}
use Rattle.daa_last.specs.declared.rest.Rest.{Rest}
use Rattle.daa_last.specs.Delayed.{velocity_since, velocity_delayed, place_delayed}

-- to an altitude it rises from the place as far as a second may; else it is what the candidate's own flight has
unfoldable pub velocity_from : Rates → Candidate → (place flown : Solid) → Solid
velocity_from rates (Altitude a) place flown = record { flat = flown.flat; up = toward_of place.up (pos 60 *ℤ a) rates.alt -ℤ place.up }
velocity_from rates _ place flown = flown

-- what a rest says of the velocity on leg k
unfoldable pub flown_at : Rest → ℕ → Solid
flown_at rest k = if nat_lt k rest.settles then (record { flat = rest.velocity.flat; up = rest.rise }) else rest.velocity

module _ (own : Own) (rates : Rates) (m : ℕ) where
  -- begun at second m it has on each leg the velocity that it has when it is begun now: every flight but one to an altitude
  abbrev pub IsMovedAlone : Candidate → Type 0
  IsMovedAlone candidate = (j : ℕ) → velocity_since own rates m candidate j ≡ velocity_on own rates candidate j

  -- the rest is that of a flight that is delayed by m
  pub record IsRestOf (rest : Rest) : Type 0 where
    pub in_range : IsCandidateInRange rest.candidate
    pub not_before : m ≤ rest.from
    pub at : rest.place ≡ place_delayed own rates m rest.candidate rest.from
    pub on : (k : ℕ) → rest.from ≤ k
        → velocity_delayed own rates m rest.candidate k ≡ velocity_from rates rest.candidate (place_delayed own rates m rest.candidate k) (flown_at rest k)
