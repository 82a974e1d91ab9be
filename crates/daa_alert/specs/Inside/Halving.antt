-- The least leg of the present flight on which a volume is violated.
use Rattle.std.specs.Prelude.{ℕ, ◌<◌}
use Rattle.daa_taumod.specs.declared.Volume.{Volume}
use Rattle.daa_config.specs.declared.candidate.Candidate.TheVariants.{Hold}
use Rattle.daa_config.specs.Settings.{Settings}
use Rattle.daa_state.specs.declared.word.Own.{Own}
use Rattle.daa_state.specs.declared.word.Traffic.{Traffic}
use Rattle.daa_legs.specs.Meeting.{ViolatesOn}

-- k is the least leg of the present flight on which the volume is violated
pub record IsLeastLeg (settings : Settings) (own : Own) (aircraft : Traffic) (volume : Volume) (k : ℕ) : Type 0 where
  pub violates : ViolatesOn settings own Hold aircraft volume k
  pub none_before : (j : ℕ) → j < k → ¬ ViolatesOn settings own Hold aircraft volume j
