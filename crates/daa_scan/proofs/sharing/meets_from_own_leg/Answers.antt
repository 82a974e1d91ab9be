use Rattle.std.proofs.Common.{◌≡◌, ◌+◌, ◌<◌, ◌≤◌, ◌∙◌, ℕ, inl, inr, ⊎_elim, ap, sym, subst, refl, arith}
use Rattle.daa_fixed.specs.Leg.{plus}
use Rattle.daa_config.specs.Settings.{rates_of}
use Rattle.daa_legs.specs.declared.own_leg.OwnLeg.{OwnLeg}
use Rattle.daa_legs.specs.Branch.{FliesOn}
use Rattle.daa_legs.specs.OwnLeg.{IsOwnLegInRange}
use Rattle.daa_legs.proofs.Branching.{from_next}
use Rattle.daa_legs.proofs.Places.{place-next}
use Rattle.daa_scan.specs.Inside.Rounds.{settings_in, own_in, aircraft_in}
use Rattle.daa_scan.proofs.Trails.{own_by_branch, own_leg-in_range, leg_tested}
use Rattle.daa_scan.proofs.sharing.meets_from_own_leg.Goals as goal

pub relative_from-seen-requires-clause-leg : goal.relative_from-seen-requires-clause-leg
relative_from-seen-requires-clause-leg g c =
    let r = c.args.round.now in
    let rates = rates_of (settings_in r) in
    let k = c.args.branch.now.leaves in
    let short : c.args.branch.now.leaves < 180 = omega (arith, c.requires.1.1.0, r.known.in_range.lookahead_most) in
    let own = own_by_branch (own_in r) rates g.candidate c.args.branch.now c.args.place.now c.own_leg_of-first.result c.requires.1.0 c.requires.1.1.1.0 short c.requires.1.1.1.1
    c.own_leg_of-first.ensures in
    subst (λ (l : OwnLeg). IsOwnLegInRange l) (sym own) (own_leg-in_range (own_in r) rates g.candidate k r.encounter.known.own_in_range r.known.accepted.rates c.requires.0 (omega (arith, short)))

pub end_of-requires : goal.end_of-requires
end_of-requires g c =
    let r = c.args.round.now in
    let rates = rates_of (settings_in r) in
    let k = c.args.branch.now.leaves in
    let short : c.args.branch.now.leaves < 180 = omega (arith, c.requires.1.1.0, r.known.in_range.lookahead_most) in
    let own = own_by_branch (own_in r) rates g.candidate c.args.branch.now c.args.place.now c.own_leg_of-first.result c.requires.1.0 c.requires.1.1.1.0 short c.requires.1.1.1.1
    c.own_leg_of-first.ensures in
    subst (λ (l : OwnLeg). IsOwnLegInRange l) (sym own) (own_leg-in_range (own_in r) rates g.candidate k r.encounter.known.own_in_range r.known.accepted.rates c.requires.0 (omega (arith, short)))

pub returns-then-violates_on : goal.returns-then-violates_on
returns-then-violates_on g c =
    let r = c.args.round.now in
    let rates = rates_of (settings_in r) in
    let k = c.args.branch.now.leaves in
    let short : c.args.branch.now.leaves < 180 = omega (arith, c.requires.1.1.0, r.known.in_range.lookahead_most) in
    let own = own_by_branch (own_in r) rates g.candidate c.args.branch.now c.args.place.now c.own_leg_of-first.result c.requires.1.0 c.requires.1.1.1.0 short c.requires.1.1.1.1
    c.own_leg_of-first.ensures in
    let tested = leg_tested (settings_in r) (own_in r) g.candidate (aircraft_in r) r.level.volume k c.own_leg_of-first.result c.relative_from-seen.result c.violates_on.result own
    c.relative_from-seen.ensures.value c.violates_on.ensures in
    let f = from_next (settings_in r) (own_in r) g.candidate (aircraft_in r) r.level.volume k r.level.lookahead c.requires.1.1.0 in
    ((λ _. f.1 (inl (tested.0 c.if-violates_on.true))), (λ _. refl))

next : (n s : ℕ) → n < s → s ≤ n + 1 → s ≡ n + 1
next n s a b = omega (arith, a, b)

pub meets_on_rest-requires : goal.meets_on_rest-requires
meets_on_rest-requires g c =
    let r = c.args.round.now in
    let rates = rates_of (settings_in r) in
    let k = c.args.branch.now.leaves in
    let short : c.args.branch.now.leaves < 180 = omega (arith, c.requires.1.1.0, r.known.in_range.lookahead_most) in
    let own = own_by_branch (own_in r) rates g.candidate c.args.branch.now c.args.place.now c.own_leg_of-first.result c.requires.1.0 c.requires.1.1.1.0 short c.requires.1.1.1.1
    c.own_leg_of-first.ensures in
    let place = c.end_of.ensures ∙ ap (λ (l : OwnLeg). plus l.place l.velocity) own ∙ place-next (own_in r) rates g.candidate k in
    let on = subst (λ (n : ℕ). FliesOn (own_in r) rates g.candidate n) (next k c.args.branch.now.settles c.requires.1.1.1.0 c.requires.1.0.near.1) c.requires.1.0.after in
    (c.requires.0, (c.requires.1.0.velocity, (place, on)))

pub returns : goal.returns
returns g c =
    let r = c.args.round.now in
    let rates = rates_of (settings_in r) in
    let k = c.args.branch.now.leaves in
    let short : c.args.branch.now.leaves < 180 = omega (arith, c.requires.1.1.0, r.known.in_range.lookahead_most) in
    let own = own_by_branch (own_in r) rates g.candidate c.args.branch.now c.args.place.now c.own_leg_of-first.result c.requires.1.0 c.requires.1.1.1.0 short c.requires.1.1.1.1
    c.own_leg_of-first.ensures in
    let tested = leg_tested (settings_in r) (own_in r) g.candidate (aircraft_in r) r.level.volume k c.own_leg_of-first.result c.relative_from-seen.result c.violates_on.result own
    c.relative_from-seen.ensures.value c.violates_on.ensures in
    let f = from_next (settings_in r) (own_in r) g.candidate (aircraft_in r) r.level.volume k r.level.lookahead c.requires.1.1.0 in (
      (λ t. f.1 (inr (c.meets_on_rest.ensures.0 t))),
      (λ m. ⊎_elim
          (λ v. let t = tested.1 v in absurd (cc (t, c.if-violates_on.false)))
          (λ b. c.meets_on_rest.ensures.1 b)
          (f.0 m)),
    )
