use Rattle.std.proofs.Common.{ap, length, arith}
use Rattle.daa_engine.proofs.room.Room.report.Goals as goal

pub report_in-requires-clause-branches : goal.report_in-requires-clause-branches
report_in-requires-clause-branches g c =
    let same = ap length c.as_mut_slice-2.ensures.value in
    omega (arith, same, c.self.invariant.1)
