use Rattle.std.proofs.Common.{ℕ, sym, subst, arith}
use Rattle.daa_config.specs.declared.candidate.Candidate.{Candidate}
use Rattle.daa_config.specs.Settings.{rates_of}
use Rattle.daa_legs.specs.Branch.{FliesAs}
use Rattle.daa_last.specs.Inside.Search.{IsClosedLateOfSome}
use Rattle.daa_last.proofs.Openness.{blocked_closed, open_beyond, closed_on_rest}
use Rattle.daa_last.proofs.search.closing_beside.Goals as goal

pub closing_by_lead-requires-clause-alike : goal.closing_by_lead-requires-clause-alike
closing_by_lead-requires-clause-alike c = record {
  same = λ k b. (subst (λ (x : Candidate). FliesAs c.args.picture.now.own (rates_of c.args.config.now) c.args.candidate x c.args.branch.now.leaves) (sym c.requires.leads)
      c.requires.branch.before).same k
      (omega (arith, b, c.if-branch-left.true));
}

pub closing_by_lead-requires-clause-rest : goal.closing_by_lead-requires-clause-rest
closing_by_lead-requires-clause-rest c = open_beyond c.args.config.now c.args.picture.now c.args.m c.args.candidate c.args.horizon _ c.requires.horizon (omega (arith, c.requires.m))

pub returns-then-walk-branch-clause-closes : goal.returns-then-walk-branch-clause-closes
returns-then-walk-branch-clause-closes c = blocked_closed c.args.config.now c.args.picture.now c.args.m c.args.candidate c.args.side.now.lead c.requires.alone c.requires.lead
    c.args.branch.now.leaves
    (subst (λ (x : Candidate). FliesAs c.args.picture.now.own (rates_of c.args.config.now) c.args.candidate x c.args.branch.now.leaves) (sym c.requires.leads) c.requires.branch.before)
    c.args.walk.now.blocked c.if-walk-branch.true
    (c.requires.walk.blocked (omega (arith, c.if-walk-branch.true, c.if-branch-left.false, c.requires.short)))

pub returns-in-Some-clause-closes : goal.returns-in-Some-clause-closes
returns-in-Some-clause-closes c = closed_on_rest c.args.config.now c.args.picture.now c.args.m c.args.candidate c.rest_of-rest.result.from
    (subst (λ (x : Candidate). IsClosedLateOfSome c.args.config.now c.args.picture.now x c.args.m c.rest_of-rest.result.from) c.rest_of-rest.ensures.candidate c.in-Some.ensures)

pub closing_by_lead-requires-in-None-clause-alike : goal.closing_by_lead-requires-in-None-clause-alike
closing_by_lead-requires-in-None-clause-alike c =
    subst (λ (x : Candidate). FliesAs c.args.picture.now.own (rates_of c.args.config.now) c.args.candidate x c.args.branch.now.leaves) (sym c.requires.leads) c.requires.branch.before

pub closing_by_lead-requires-in-None-clause-rest : goal.closing_by_lead-requires-in-None-clause-rest
closing_by_lead-requires-in-None-clause-rest c x =
    let e = c.rest_of-rest.ensures.candidate in
    let f = c.rest_of-rest.ensures.from in
    c.in-None.ensures (subst (λ (y : Candidate). IsClosedLateOfSome c.args.config.now c.args.picture.now y c.args.m c.rest_of-rest.result.from) (sym e)
    (subst (λ (n : ℕ). IsClosedLateOfSome c.args.config.now c.args.picture.now c.args.candidate c.args.m n) (sym f) x))
