use Rattle.std.proofs.Common.{◌<◌, arith, sym, subst, Option}
use Rattle.daa_recovery.specs.OutlookState.{OutlookState}
use Rattle.daa_recovery.specs.Inside.Search.{IsBeforeHorizon}
use Rattle.daa_recovery.specs.declared.recovery.Recovery.{Recovery}
use Rattle.daa_recovery.proofs.Horizons.{horizon_short}
use Rattle.daa_recovery.proofs.outlook.Outlook.bound.Goals as goal

pub overflow_add-result : goal.overflow_add-result
overflow_add-result c =
    let before = subst (λ (o : Option Recovery). IsBeforeHorizon c.args.self.now o) c.in-Some.is c.requires in
    let here = subst (λ (p : OutlookState). c.in-Some.best.after < p.horizon) (sym c.self.view_is) before in
    let short = horizon_short _ _ c.self.invariant.accepted c.self.invariant.horizon in
    omega (arith, here, short)
