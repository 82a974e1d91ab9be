use Rattle.std.proofs.Common.{◌↔◌, subst}
use Rattle.std.specs.Prelude.{IsTrue, pos}
use Rattle.daa_fixed.specs.declared.Leg.{Leg}
use Rattle.daa_legs.specs.Alerts.{ViolatesNow}
use Rattle.daa_legs.specs.Violating.{ViolatesBy}
use Rattle.daa_legs.proofs.AtLevel.{violates_now_at}
use Rattle.daa_alert.proofs.GreatestLevels.{none_start, none_next, greatest_here, greatest_none}
use Rattle.daa_alert.proofs.now.now_level.Goals as goal
use Rattle.daa_alert.proofs.now.now_level.Goals.{After-violates_now}

tested : (c : After-violates_now) → IsTrue c.violates_now.result ↔ ViolatesNow c.args.config.now c.args.own.now c.args.aircraft.now c.loop-l.l
tested c =
    let t = c.args.aircraft.now in
    let here = violates_now_at c.args.config.now c.args.own.now t c.loop-l.l c.level.result.now c.level.ensures.value in
    let same = subst (λ (leg : Leg). IsTrue c.violates_now.result ↔ ViolatesBy t 0 leg c.level.result.now.volume (pos 0) (pos 1))
    c.first_second-leg.ensures.value c.violates_now.ensures in
    ((λ t. here.0 (same.0 t)), (λ v. same.1 (here.1 v)))

pub loop-l-init : goal.loop-l-init
loop-l-init c = none_start _ _ _ c.levels-l.ensures.value

pub returns-then-violates_now : goal.returns-then-violates_now
returns-then-violates_now c = greatest_here _ _ _ c.loop-l.invariant ((tested c.before).0 c.if-violates_now.true)

pub loop-l-preserved : goal.loop-l-preserved
loop-l-preserved c = none_next _ _ _ c.loop-l-test.true c.loop-l.invariant (λ v. let t = (tested c.before).1 v in cc (t, c.if-violates_now.false))

pub returns : goal.returns
returns c = greatest_none _ _ _ c.loop-l-test.false c.loop-l.invariant
