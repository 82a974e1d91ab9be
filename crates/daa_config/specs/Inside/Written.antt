-- What numbers of a configuration mean.
use Rattle.daa_config.specs.declared.reading.DocumentNumbers.{DocumentNumbers}
use Rattle.daa_config.specs.ConfigOf.{Written}

-- those that the reader found
abbrev pub written_from : DocumentNumbers → Written
written_from found = record { numbers = found.numbers; recovery = found.recovery; last_times = found.last_times; levels = found.levels.items }
