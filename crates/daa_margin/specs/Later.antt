-- The seconds of one straight leg, each as a leg of its own, with the bounds that the errors have at its beginning.
use Rattle.std.specs.Prelude.{ℕ, pos, ◌+◌, ◌*◌, ◌<◌}
use Rattle.daa_fixed.specs.Leg.{plus, times}
use Rattle.daa_fixed.specs.Time.{HoldsSometime}
use Rattle.daa_fixed.specs.declared.Leg.{Leg}
use Rattle.daa_taumod.specs.declared.Volume.{Volume}
use Rattle.daa_margin.specs.declared.ErrorBounds.{ErrorBounds}
use Rattle.daa_margin.specs.MayViolate.{MayViolate}

-- second k of the leg, from k to k + 1
abbrev pub second_of : Leg → ℕ → Leg
second_of leg k = record { place = plus leg.place (times (pos k) leg.velocity); velocity = leg.velocity; secs = 1 }

-- the bounds k seconds later: place and height have had k seconds to err
abbrev pub bounds_after : ErrorBounds → ℕ → ErrorBounds
bounds_after bounds k = record {
  place = bounds.place + k * bounds.speed;
  speed = bounds.speed;
  height = bounds.height + k * bounds.climb;
  climb = bounds.climb;
}

-- the volume may be violated at some time of one of the leg's seconds, the beginning and the end of each among them
pub record MayViolateOnSomeSecond (leg : Leg) (volume : Volume) (bounds : ErrorBounds) : Type 0 where
  pub second : ℕ
  pub before : second < leg.secs
  pub holds : HoldsSometime 1 (MayViolate (second_of leg second) volume (bounds_after bounds second))
