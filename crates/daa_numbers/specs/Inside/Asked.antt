-- What is found of a caller's numbers if nothing is wrong with them.
use Rattle.std.specs.Prelude.{◌≡◌, ℕ, List, None, Ok}
use Rattle.daa_config.specs.Settings.{Settings}
use Rattle.daa_state.specs.InRange.{IsOwnInRange}
use Rattle.daa_state.specs.declared.word.Own.{Own}
use Rattle.daa_state.specs.declared.word.Picture.{Picture}
use Rattle.daa_numbers.specs.Asked.{IsTaken}
use Rattle.daa_numbers.specs.Numbers.{settings_by}
use Rattle.daa_numbers.specs.Refusal.{refusal_of, refusal_of_own}
use Rattle.daa_numbers.specs.States.{picture_of}
use Rattle.daa_numbers.specs.declared.setting.DaaConfig.{DaaConfig}
use Rattle.daa_numbers.specs.declared.states.DaaTraffic.{DaaTraffic}

-- the configuration of the numbers, and their picture
pub record IsAsked (config : DaaConfig) (time : ℕ) (own : Own) (traffic : List DaaTraffic) (settings : Settings) (picture : Picture) : Type 0 where
  pub sound : refusal_of config own traffic ≡ None
  pub accepted : settings_by config ≡ Ok settings
  pub is : picture ≡ picture_of time own traffic
  pub taken : IsTaken picture

-- the configuration of the numbers, and an ownship in range
pub record IsAskedOfOwn (config : DaaConfig) (own : Own) (settings : Settings) : Type 0 where
  pub sound : refusal_of_own config own ≡ None
  pub accepted : settings_by config ≡ Ok settings
  pub range : IsOwnInRange own
