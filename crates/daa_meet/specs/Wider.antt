-- Bounds of reports that are wider than others.
use Rattle.std.specs.Prelude.{◌≤◌}
use Rattle.daa_state.specs.declared.word.PairBounds.{PairBounds}
use Rattle.daa_state.specs.declared.word.ReportBounds.{ReportBounds}
use Rattle.daa_state.specs.declared.word.Traffic.{Traffic}

-- no bound of the first report is greater than that of the second
pub record IsReportNoWider (narrow wide : ReportBounds) : Type 0 where
  pub place : narrow.place ≤ wide.place
  pub height : narrow.height ≤ wide.height
  pub speed : narrow.speed ≤ wide.speed
  pub climb : narrow.climb ≤ wide.climb

-- this holds of the ownship's bounds, and of the aircraft's
pub record AreBoundsNoWider (narrow wide : PairBounds) : Type 0 where
  pub own : IsReportNoWider narrow.own wide.own
  pub aircraft : IsReportNoWider narrow.aircraft wide.aircraft

-- the aircraft with these bounds in place of its own
abbrev pub bounded : PairBounds → Traffic → Traffic
bounded bounds aircraft = record aircraft { bounds = bounds }
