use Rattle.std.proofs.Common.{◌≡◌, ◌≤◌, ℕ, subst, arith}
use Rattle.daa_config.specs.Settings.{rates_of}
use Rattle.daa_legs.specs.Branch.{FliesOn}
use Rattle.daa_scan.specs.Inside.Rounds.{settings_in, own_in}
use Rattle.daa_scan.proofs.Trails.{leaves_there, flies_as_lead}
use Rattle.daa_scan.proofs.sharing.meets_after.Goals as goal

pub meets_from_own_leg-requires : goal.meets_from_own_leg-requires
meets_from_own_leg-requires g c =
    let r = c.args.round.now in
    let rates = rates_of (settings_in r) in
    let by = c.requires.1.0 in
    let place = leaves_there (own_in r) rates g.candidate c.args.lead c.args.branch.now.leaves r.level.lookahead c.args.trunk.now c.leg.result.now
    (flies_as_lead (own_in r) rates g.candidate c.args.lead c.args.branch.now by.leads by.branch_of) c.requires.0.legs_of c.requires.1.1 c.leg.ensures in
    (by.in_range, (by.branch_of, (c.requires.1.1, (c.if-branch-k.true, place))))

same : (n s : ℕ) → s ≤ n → n ≤ s → s ≡ n
same n s a b = omega (arith, a, b)

pub meets_on_rest-requires : goal.meets_on_rest-requires
meets_on_rest-requires g c =
    let r = c.args.round.now in
    let rates = rates_of (settings_in r) in
    let by = c.requires.1.0 in
    let place = leaves_there (own_in r) rates g.candidate c.args.lead c.args.branch.now.leaves r.level.lookahead c.args.trunk.now c.leg.result.now
    (flies_as_lead (own_in r) rates g.candidate c.args.lead c.args.branch.now by.leads by.branch_of) c.requires.0.legs_of c.requires.1.1 c.leg.ensures in
    let on = subst (λ (n : ℕ). FliesOn (own_in r) rates g.candidate n) (same c.args.branch.now.leaves c.args.branch.now.settles
    (omega (arith, c.if-branch-k.false)) by.branch_of.near.0) by.branch_of.after in
    (by.in_range, (by.branch_of.velocity, (place, on)))
