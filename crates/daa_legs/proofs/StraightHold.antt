-- Hold flies straight: its seconds are one leg.
use Rattle.std.proofs.Common.{◌≡◌, ◌↔◌, ℕ, ◌+◌, refl, ap, sym, ◌∙◌, arith}
use Rattle.daa_taumod.specs.declared.Volume.{Volume}
use Rattle.daa_config.specs.declared.candidate.Candidate.{Candidate}
use Rattle.daa_config.specs.declared.config.Rates.{Rates}
use Rattle.daa_config.specs.declared.candidate.Candidate.TheVariants.{Hold}
use Rattle.daa_config.specs.Settings.{Settings}
use Rattle.daa_state.specs.declared.word.Own.{Own}
use Rattle.daa_state.specs.declared.word.Traffic.{Traffic}
use Rattle.daa_legs.specs.declared.own_leg.OwnLeg.{OwnLeg}
use Rattle.daa_legs.specs.Motion.{track_on, ground_speed_on, vertical_speed_on, velocity_on}
use Rattle.daa_legs.specs.OwnLeg.{own_leg}
use Rattle.daa_legs.specs.Meeting.{MeetsWithin}
use Rattle.daa_legs.specs.Runs.{IsRunOf, MeetsBetween}

pub hold_velocity : (own : Own) (rates : Rates) (j k : ℕ) → velocity_on own rates Hold j ≡ velocity_on own rates Hold k
unfolding velocity_on ground_speed_on track_on vertical_speed_on
hold_velocity own rates j k = refl

pub hold_run : (own : Own) (rates : Rates) (leg : OwnLeg) (secs : ℕ) → leg ≡ own_leg own rates Hold 0 → IsRunOf own rates Hold 0 (record { place = leg.place; velocity = leg.velocity; secs = secs })
hold_run own rates leg secs e = record {
  begins = ap (λ (l : OwnLeg). l.place) e;
  same = λ j h. hold_velocity own rates (0 + j) 0 ∙ sym (ap (λ (l : OwnLeg). l.velocity) e);
}

-- between 0 and m is within m
pub from_start : (settings : Settings) (own : Own) (candidate : Candidate) (aircraft : Traffic) (volume : Volume) (m : ℕ)
    → MeetsBetween settings own candidate aircraft volume 0 (0 + m) ↔ MeetsWithin settings own candidate aircraft volume m
from_start settings own candidate aircraft volume m = (
  (λ e. record { leg = e.leg; before = omega (arith, e.before); violates = e.violates }),
  (λ e. record { leg = e.leg; not_before = omega arith; before = omega (arith, e.before); violates = e.violates }),
)
