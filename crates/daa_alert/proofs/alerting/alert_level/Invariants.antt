use Rattle.std.proofs.Common.{length}
use Rattle.daa_legs.specs.Alerts.{Alerts}
use Rattle.daa_alert.proofs.GreatestLevels.{IsNoneAbove}
use Rattle.daa_alert.proofs.alerting.alert_level.Given as goal

abbrev pub invariant-loop-l : goal.invariant-loop-l
invariant-loop-l l = IsNoneAbove (Alerts l.config l.own l.aircraft) (length l.config.levels) l.l

abbrev pub decreases-loop-l : goal.decreases-loop-l
decreases-loop-l l = l.l
