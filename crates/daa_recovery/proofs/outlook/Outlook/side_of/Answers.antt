use Rattle.daa_recovery.proofs.Horizons.{horizon_short}
use Rattle.daa_recovery.proofs.outlook.Outlook.side_of.Goals as goal

pub fill-requires-clause-most : goal.fill-requires-clause-most
fill-requires-clause-most c = horizon_short _ _ c.self.invariant.accepted c.self.invariant.horizon
