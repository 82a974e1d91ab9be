use Rattle.std.proofs.Common.{arith, length, ap}
use Rattle.daa_config.specs.Candidates.{values_of}
use Rattle.daa_recovery.specs.OutlookState.{OutlookState}
use Rattle.daa_recovery.proofs.Searching.{found_all}
use Rattle.daa_recovery.proofs.outlook.Outlook.least.Goals as goal

pub returns : goal.returns
returns c = found_all c.args.self.now c.args.kind c.args.side c.loop-index.index c.loop-index.found
    (omega (
      arith,
      c.loop-index-test.false,
      c.count-index-end.ensures.value,
      ap (λ (p : OutlookState). length (values_of c.args.kind p.settings)) c.self.view_is,
    ))
    c.loop-index.invariant.found
