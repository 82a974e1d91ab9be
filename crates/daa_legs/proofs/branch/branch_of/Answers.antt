use Rattle.std.proofs.Common.{rules, FitsSigned, w32, to_z-of_z}
use Rattle.daa_legs.proofs.branch.branch_of.Goals as goal

pub branch_from-requires-clause-present : goal.branch_from-requires-clause-present
branch_from-requires-clause-present c =
    let g : FitsSigned w32 c.args.own.now.gs = search rules in
    let t : FitsSigned w32 c.args.own.now.trk = search rules in
    simp to_z-of_z at c.velocity.ensures
