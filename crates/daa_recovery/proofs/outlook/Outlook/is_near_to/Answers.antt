use Rattle.std.proofs.Common.{◌↔◌, subst}
use Rattle.std.specs.Prelude.{IsTrue}
use Rattle.daa_legs.specs.Meeting.{ViolatesOn}
use Rattle.daa_meet.proofs.Keeping.{leg_tested}
use Rattle.daa_recovery.specs.OutlookState.{OutlookState}
use Rattle.daa_recovery.proofs.outlook.Outlook.is_near_to.Goals as goal

pub returns : goal.returns
returns c =
    let p = c.args.self.now in
    subst (λ (q : OutlookState). IsTrue c.violates_on.result ↔ ViolatesOn p.settings p.picture.own c.args.candidate c.args.aircraft.now q.cylinder c.args.k) c.self.view_is
    (leg_tested p.settings p.picture.own c.args.candidate c.args.aircraft.now _ c.args.k c.args.leg.now c.relative.result c.violates_on.result
    c.requires.leg c.relative.ensures.value c.violates_on.ensures)
