use Rattle.std.proofs.Common.{◌∙◌, Bool, ap, sym}
use Rattle.daa_config.specs.Settings.{rates_of}
use Rattle.daa_scan.specs.Trunks.{trunk_in}
use Rattle.daa_scan.specs.Inside.Rounds.{settings_in, own_in}
use Rattle.daa_scan.proofs.Sides.{trunk_led, leads_of, upper_trail, lower_trail, upper_kept, lower_kept, past_of}
use Rattle.daa_scan.proofs.marking.meets_shared.Goals as goal

pub meets_along-requires : goal.meets_along-requires
meets_along-requires g c =
    let r = c.args.round.now in
    let is = c.requires.0 in
    let lead = c.lead_to-lead.result in
    let led = c.lead_to-lead.ensures.value in
    let upper = c.args.branch.now.upper in
    let trunk = trunk_led (own_in r) c.args.kind upper lead led (rates_of (settings_in r)) r.level.lookahead r.trunks.now.trunks c.args.leads.now.upper.now
    (λ u z. r.known.kept.trunks.leads r.l r.level r.known.there c.args.kind u z c.requires.1.0)
    (c.requires.1.1.0.upper ∙ ap (λ (u : Bool). trunk_in r.trunks.now.trunks c.args.kind u) (sym c.if-branch.true)) in (
      record { in_range = c.lead_to-lead.ensures.in_range; legs_of = trunk },
      (
        record { in_range = is.in_range; leads = leads_of (own_in r) c.args.kind upper lead led g.candidate is.value is.is; branch_of = is.branch_of },
        record {
          at = upper_trail r c.args.kind upper lead led c.args.trails.now c.requires.1.1.1 c.if-branch.true;
          later = past_of r c.args.kind g.candidate is.value c.args.trails.now.upper.end is.is c.requires.1.1.1.past_upper;
        },
      ),
    )

pub meets_along-requires-else-branch : goal.meets_along-requires-else-branch
meets_along-requires-else-branch g c =
    let r = c.args.round.now in
    let is = c.requires.0 in
    let lead = c.lead_to-lead.result in
    let led = c.lead_to-lead.ensures.value in
    let upper = c.args.branch.now.upper in
    let trunk = trunk_led (own_in r) c.args.kind upper lead led (rates_of (settings_in r)) r.level.lookahead r.trunks.now.trunks c.args.leads.now.lower.now
    (λ u z. r.known.kept.trunks.leads r.l r.level r.known.there c.args.kind u z c.requires.1.0)
    (c.requires.1.1.0.lower ∙ ap (λ (u : Bool). trunk_in r.trunks.now.trunks c.args.kind u) (sym c.if-branch.false)) in (
      record { in_range = c.lead_to-lead.ensures.in_range; legs_of = trunk },
      (
        record { in_range = is.in_range; leads = leads_of (own_in r) c.args.kind upper lead led g.candidate is.value is.is; branch_of = is.branch_of },
        record {
          at = lower_trail r c.args.kind upper lead led c.args.trails.now c.requires.1.1.1 c.if-branch.false;
          later = past_of r c.args.kind g.candidate is.value c.args.trails.now.lower.end is.is c.requires.1.1.1.past_lower;
        },
      ),
    )

pub returns-then-branch-clause-trails : goal.returns-then-branch-clause-trails
returns-then-branch-clause-trails g c = upper_kept c.args.round.now c.args.kind c.args.branch.now.upper c.lead_to-lead.result c.lead_to-lead.ensures.value c.args.trails.now
    c.requires.1.1.1 c.meets_along.new.trail c.if-branch.true
    c.meets_along.ensures.end c.meets_along.ensures.trail

pub returns-else-branch-clause-trails : goal.returns-else-branch-clause-trails
returns-else-branch-clause-trails g c = lower_kept c.args.round.now c.args.kind c.args.branch.now.upper c.lead_to-lead.result c.lead_to-lead.ensures.value c.args.trails.now
    c.requires.1.1.1 c.meets_along-else-branch.new.trail c.if-branch.false
    c.meets_along-else-branch.ensures.end c.meets_along-else-branch.ensures.trail
