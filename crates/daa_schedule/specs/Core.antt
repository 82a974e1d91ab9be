-- The fields of a core, as plain data.
use Rattle.daa_schedule.specs.declared.core_state.Core.TheInside.{Inside}
use Rattle.daa_schedule.specs.CoreState.{CoreState}

-- the fields of a core, as lists
abbrev pub state_of : Inside → CoreState
state_of core = record {
  answers = core.answers.items;
  ranges = core.ranges.items;
  hands = core.hands.items;
  ended = core.ended.items;
  board = core.board.items;
}
