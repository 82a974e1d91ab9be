use Rattle.daa_alert.proofs.GreatestLevels.{none_start, none_next, greatest_here, greatest_none}
use Rattle.daa_alert.proofs.alerting.alert_level.Goals as goal

pub loop-l-init : goal.loop-l-init
loop-l-init c = none_start _ _ _ c.levels-l.ensures.value

pub returns-then-alerts_at : goal.returns-then-alerts_at
returns-then-alerts_at c = greatest_here _ _ _ c.loop-l.invariant (c.alerts_at.ensures.0 c.if-alerts_at.true)

pub loop-l-preserved : goal.loop-l-preserved
loop-l-preserved c = none_next _ _ _ c.loop-l-test.true c.loop-l.invariant (λ a. let t = c.alerts_at.ensures.1 a in cc (t, c.if-alerts_at.false))

pub returns : goal.returns
returns c = greatest_none _ _ _ c.loop-l-test.false c.loop-l.invariant
