use Rattle.std.proofs.Common.{◌≡◌, ◌∙◌, true, false, refl, sym, subst, ap}
use Rattle.std.specs.Prelude.{MatchOption}
use Rattle.daa_config.specs.declared.candidate.Candidate.{Candidate}
use Rattle.daa_config.specs.Settings.{rates_of}
use Rattle.daa_legs.specs.declared.own_leg.OwnLeg.{OwnLeg}
use Rattle.daa_legs.specs.Branch.{lead_of}
use Rattle.daa_legs.specs.Table.{IsBranchOf}
use Rattle.daa_config.specs.declared.config.Rates.{Rates}
use Rattle.daa_last.specs.Last.{IsOpenDelayed}
use Rattle.daa_last.specs.Inside.Rests.{IsMovedAlone}
use Rattle.daa_last.proofs.Delays.{moved_alone, lead_moved_alone}
use Rattle.daa_last.proofs.search.closing.Goals as goal

pub closing_from-requires-clause-altitude : goal.closing_from-requires-clause-altitude
closing_from-requires-clause-altitude c = (c.in-Altitude._a, refl)

pub returns-in-Altitude-clause-closes : goal.returns-in-Altitude-clause-closes
returns-in-Altitude-clause-closes c = subst
    (λ (x : Candidate). MatchOption c.closing_from.result (IsOpenDelayed c.args.config.now c.args.picture.now x c.args.m) (λ _. ¬ IsOpenDelayed c.args.config.now c.args.picture.now x c.args.m))
    (sym c.in-Altitude.is) c.closing_from.ensures

pub closing_beside-requires : goal.closing_beside-requires
closing_beside-requires c =
    let (z, e) = c.requires.kind in
    let up : c.branch_of-branch.result.upper ≡ true = c.if-branch.true in
    let leads : c.args.sides.now.upper.lead ≡ lead_of c.args.picture.now.own c.args.candidate c.branch_of-branch.result.upper =
    c.requires.sides.upper_leads z ∙ (λ i. lead_of c.args.picture.now.own (sym e i) (sym up i)) in
    record {
      picture = c.requires.picture;
      side = c.requires.sides.upper;
      lead = subst (λ (x : Candidate). IsMovedAlone c.args.picture.now.own (rates_of c.args.config.now) c.args.m x) (sym leads)
          (lead_moved_alone c.args.picture.now.own (rates_of c.args.config.now) c.args.m c.args.candidate c.branch_of-branch.result.upper c.in_default.not-Altitude);
      walk = c.requires.walks.upper;
      candidate = c.requires.candidate;
      alone = moved_alone c.args.picture.now.own (rates_of c.args.config.now) c.args.m c.args.candidate c.in_default.not-Altitude;
      other = c.in_default.not-Altitude;
      leads = leads;
      branch = subst (λ (r : Rates). IsBranchOf c.args.picture.now.own r c.args.candidate c.branch_of-branch.result) c.rates.ensures.value c.branch_of-branch.ensures;
      start = ap (λ (l : OwnLeg). l.place) c.requires.start;
      m = c.requires.m;
      horizon = c.requires.horizon;
      short = c.requires.short;
      held = c.requires.held;
    }

pub closing_beside-requires-else-branch : goal.closing_beside-requires-else-branch
closing_beside-requires-else-branch c =
    let (z, e) = c.requires.kind in
    let down : c.branch_of-branch.result.upper ≡ false = c.if-branch.false in
    let leads : c.args.sides.now.lower.lead ≡ lead_of c.args.picture.now.own c.args.candidate c.branch_of-branch.result.upper =
    c.requires.sides.lower_leads z ∙ (λ i. lead_of c.args.picture.now.own (sym e i) (sym down i)) in
    record {
      picture = c.requires.picture;
      side = c.requires.sides.lower;
      lead = subst (λ (x : Candidate). IsMovedAlone c.args.picture.now.own (rates_of c.args.config.now) c.args.m x) (sym leads)
          (lead_moved_alone c.args.picture.now.own (rates_of c.args.config.now) c.args.m c.args.candidate c.branch_of-branch.result.upper c.in_default.not-Altitude);
      walk = c.requires.walks.lower;
      candidate = c.requires.candidate;
      alone = moved_alone c.args.picture.now.own (rates_of c.args.config.now) c.args.m c.args.candidate c.in_default.not-Altitude;
      other = c.in_default.not-Altitude;
      leads = leads;
      branch = subst (λ (r : Rates). IsBranchOf c.args.picture.now.own r c.args.candidate c.branch_of-branch.result) c.rates.ensures.value c.branch_of-branch.ensures;
      start = ap (λ (l : OwnLeg). l.place) c.requires.start;
      m = c.requires.m;
      horizon = c.requires.horizon;
      short = c.requires.short;
      held = c.requires.held;
    }
