-- What every core keeps.
use Rattle.daa_schedule.specs.declared.core_state.Core.TheInside.{Inside}
use Rattle.daa_schedule.specs.CoreState.{IsWhole}
use Rattle.daa_schedule.specs.Inside.CoreState.{IsShaped}
use Rattle.daa_schedule.specs.Core.{state_of}

-- what holds of every core
abbrev pub IsGood : Inside → Type 0
IsGood core = IsShaped (state_of core) × IsWhole (state_of core)
