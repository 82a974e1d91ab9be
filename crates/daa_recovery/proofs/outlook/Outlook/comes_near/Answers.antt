use Rattle.std.proofs.Common.{◌↔◌, arith, ap, subst}
use Rattle.std.specs.Prelude.{IsTrue}
use Rattle.daa_legs.specs.Runs.{MeetsBetween}
use Rattle.daa_recovery.specs.OutlookState.{OutlookState}
use Rattle.daa_recovery.proofs.outlook.Outlook.comes_near.Goals as goal

pub meets-requires-clause-upto : goal.meets-requires-clause-upto
meets-requires-clause-upto c = omega (arith, ap (λ (p : OutlookState). p.horizon) c.self.view_is)

pub returns : goal.returns
returns c =
    let p = c.args.self.now in
    subst
    (λ (q : OutlookState). IsTrue c.meets.result
    ↔ MeetsBetween p.settings p.picture.own c.args.candidate c.args.aircraft.now q.cylinder c.args.rest.now.from q.horizon)
    c.self.view_is c.meets.ensures
