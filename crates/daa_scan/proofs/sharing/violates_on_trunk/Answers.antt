use Rattle.std.proofs.Common.{sym, subst, arith}
use Rattle.daa_config.specs.Settings.{rates_of}
use Rattle.daa_legs.specs.declared.own_leg.OwnLeg.{OwnLeg}
use Rattle.daa_legs.specs.OwnLeg.{IsOwnLegInRange}
use Rattle.daa_scan.specs.Inside.Rounds.{settings_in, own_in, aircraft_in}
use Rattle.daa_scan.proofs.Trails.{kept_is, own_leg-in_range, leg_tested}
use Rattle.daa_scan.proofs.sharing.violates_on_trunk.Goals as goal

pub relative_from-seen-requires-clause-leg : goal.relative_from-seen-requires-clause-leg
relative_from-seen-requires-clause-leg c =
    let r = c.args.round.now in
    let rates = rates_of (settings_in r) in
    subst (λ (l : OwnLeg). IsOwnLegInRange l) (sym (kept_is (own_in r) rates c.args.lead r.level.lookahead c.args.k c.args.trunk.now c.leg.result.now c.requires.lead.legs_of
    c.requires.k c.leg.ensures))
    (own_leg-in_range (own_in r) rates c.args.lead c.args.k r.encounter.known.own_in_range r.known.accepted.rates c.requires.lead.in_range
    (omega (arith, c.requires.k, r.known.in_range.lookahead_most)))

pub returns : goal.returns
returns c =
    let r = c.args.round.now in
    leg_tested (settings_in r) (own_in r) c.args.lead (aircraft_in r) r.level.volume c.args.k c.leg.result.now c.relative_from-seen.result c.violates_on.result
    (kept_is (own_in r) (rates_of (settings_in r)) c.args.lead r.level.lookahead c.args.k c.args.trunk.now c.leg.result.now c.requires.lead.legs_of c.requires.k c.leg.ensures)
    c.relative_from-seen.ensures.value c.violates_on.ensures
