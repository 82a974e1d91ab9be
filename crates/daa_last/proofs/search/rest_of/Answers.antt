use Rattle.std.proofs.Common.{rules, FitsSigned, w64, to_z-of_z, sym, subst, arith}
use Rattle.daa_config.specs.declared.candidate.Candidate.{Candidate}
use Rattle.daa_config.specs.Settings.{rates_of}
use Rattle.daa_legs.specs.Branch.{FliesAs}
use Rattle.daa_last.proofs.Rests.{leaving_rest}
use Rattle.daa_last.proofs.search.rest_of.Goals as goal

pub returns-clause-rest : goal.returns-clause-rest
returns-clause-rest c =
    let f : FitsSigned w64 c.args.branch.now.rise = search rules in
    simp to_z-of_z
    (leaving_rest c.args.own.now (rates_of c.args.config.now) c.args.m c.args.candidate c.args.side.now.lead c.requires.candidate c.requires.alone c.requires.lead c.requires.other
    c.args.branch.now c.requires.branch
    (subst (λ (x : Candidate). FliesAs c.args.own.now (rates_of c.args.config.now) c.args.candidate x c.args.branch.now.leaves) (sym c.requires.leads) c.requires.branch.before)
    (omega (arith, c.requires.leaves, c.requires.horizon)) c.moved_leg.result c.moved_leg.ensures.value)
