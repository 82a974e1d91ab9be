-- The moment that is being read, in range.
use Rattle.std.specs.Prelude.{All, IfSome}
use Rattle.daa_state.specs.declared.moments.Moment.{Moment}
use Rattle.daa_state.specs.InRange.{AreReportBoundsInRange, IsOwnInRange, IsTrafficInRange}

-- what the open moment has so far is in its ranges
pub record IsMomentInRange (moment : Moment) : Type 0 where
  pub own : IfSome moment.own IsOwnInRange
  pub bounds : AreReportBoundsInRange moment.bounds
  pub traffic : All IsTrafficInRange moment.traffic.items
