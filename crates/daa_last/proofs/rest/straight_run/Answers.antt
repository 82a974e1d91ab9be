use Rattle.std.proofs.Common.{rules, ◌+◌, FitsSigned, w64, to_z-of_z, arith}
use Rattle.daa_last.proofs.Rests.{flown_own, flown_straight}
use Rattle.daa_last.proofs.rest.straight_run.Goals as goal

pub returns-then-k-rest-clause-keeps : goal.returns-then-k-rest-clause-keeps
returns-then-k-rest-clause-keeps c j lt =
    let f : FitsSigned w64 c.args.rest.now.rise = search rules in
    simp to_z-of_z (flown_own c.args.rest.now (c.args.k + j) (omega (arith, lt, c.if-k-rest.true)))

pub returns-else-k-rest-clause-keeps : goal.returns-else-k-rest-clause-keeps
returns-else-k-rest-clause-keeps c j lt = flown_straight c.args.rest.now (c.args.k + j) (omega (arith, c.if-k-rest.false))
