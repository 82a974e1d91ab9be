-- The configuration of a caller's numbers.
use Rattle.std.specs.Prelude.{◌≡◌, ℕ, zero, suc, nat_lt, List, take, Option, Some, None, Result, Err, IsOk, if◌then◌else◌}
use Rattle.daa_config.specs.declared.fault.ConfigFault.{ConfigFault}
use Rattle.daa_config.specs.declared.fault.ConfigFault.TheVariants.{Levels}
use Rattle.daa_config.specs.declared.numbers.RecoveryNumbers.{RecoveryNumbers}
use Rattle.daa_config.specs.ConfigOf.{Written, config_of, settings_of}
use Rattle.daa_config.specs.Settings.{Settings}
use Rattle.daa_numbers.specs.declared.setting.DaaConfig.{DaaConfig}

-- the numbers of the recovery, where the flag is not 0
abbrev pub recovery_by : ℕ → RecoveryNumbers → Option RecoveryNumbers
recovery_by zero numbers = None
recovery_by (suc n) numbers = Some numbers

-- the numbers as a text would have them
abbrev pub written_by : DaaConfig → Written
written_by c = record { numbers = c.numbers; recovery = recovery_by c.recovery c.cylinder; last_times = c.last_times; levels = take c.count c.levels }

-- the configuration that they are, or its fault: that of its levels where more are counted than there are places
abbrev pub settings_by : DaaConfig → Result Settings ConfigFault
settings_by c = if nat_lt 4 c.count then Err Levels else settings_of (written_by c)

-- the numbers are those of a text that is accepted
pub record IsReadAs (text : List ℕ) (config : DaaConfig) : Type 0 where
  pub same : config_of text ≡ settings_by config
  pub accepted : IsOk (settings_by config)
