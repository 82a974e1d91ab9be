-- The alerts of an aircraft: whether the present flight, which holds track and speeds, violates a level's volume.
use Rattle.std.specs.Prelude.{ℕ, pos, ◌<◌, length}
use Rattle.daa_config.specs.declared.candidate.Candidate.TheVariants.{Hold}
use Rattle.daa_config.specs.declared.level.Level.{Level}
use Rattle.daa_fixed.specs.Mask.{IsGreatestLevel}
use Rattle.daa_config.specs.Settings.{Settings, IsLevelAt}
use Rattle.daa_state.specs.declared.word.Own.{Own}
use Rattle.daa_state.specs.declared.word.Traffic.{Traffic}
use Rattle.daa_legs.specs.Violating.{ViolatesBy}
use Rattle.daa_legs.specs.Meeting.{relative_leg, ViolatesOn, MeetsWithin}

module _ (settings : Settings) (own : Own) (aircraft : Traffic) where
  -- Hold meets the aircraft at level l within the level's alert time
  pub record Alerts (l : ℕ) : Type 0 where
    pub level : Level
    pub there : IsLevelAt settings l level
    pub meets : MeetsWithin settings own Hold aircraft level.volume level.alert

  -- the beginning of leg 0 of Hold violates level l's volume
  pub record ViolatesNow (l : ℕ) : Type 0 where
    pub level : Level
    pub there : IsLevelAt settings l level
    pub violates : ViolatesBy aircraft 0 (relative_leg settings own Hold aircraft 0) level.volume (pos 0) (pos 1)

  -- the greatest level at which the aircraft alerts, or 0
  abbrev pub IsAlertLevel : ℕ → Type 0
  IsAlertLevel = IsGreatestLevel Alerts (length settings.levels)

  -- the greatest level that is violated now, or 0
  abbrev pub IsNowLevel : ℕ → Type 0
  IsNowLevel = IsGreatestLevel ViolatesNow (length settings.levels)

  -- k is the least leg of Hold on which level l's volume is violated, and is below the level's alert time
  pub record IsFirstLeg (l k : ℕ) : Type 0 where
    pub level : Level
    pub there : IsLevelAt settings l level
    pub in_time : k < level.alert
    pub violates : ViolatesOn settings own Hold aircraft level.volume k
    pub none_before : (j : ℕ) → j < k → ¬ ViolatesOn settings own Hold aircraft level.volume j
