-- What numbers of a configuration mean.
use Rattle.daa_config.specs.declared.numbers.ConfigNumbers.{ConfigNumbers}
use Rattle.daa_config.specs.ConfigOf.{Written}

-- the numbers that a caller keeps, as a text would have them
abbrev pub written_by : ConfigNumbers → Written
written_by found = record { numbers = found.numbers; recovery = found.recovery; last_times = found.last_times; levels = found.levels.items }
