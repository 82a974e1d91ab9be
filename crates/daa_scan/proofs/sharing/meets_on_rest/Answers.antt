use Rattle.std.proofs.Common.{◌-◌, arith}
use Rattle.daa_config.specs.Settings.{rates_of}
use Rattle.daa_scan.specs.Inside.Rounds.{settings_in, own_in, aircraft_in}
use Rattle.daa_scan.proofs.Trails.{rest_tested, rest_in_range, rest_velocity}
use Rattle.daa_scan.proofs.sharing.meets_on_rest.Goals as goal

pub returns-then-k-round : goal.returns-then-k-round
returns-then-k-round g c = ((λ t. absurd (cc t)), (λ b. absurd (omega (arith, b.not_before, b.before, c.if-k-round.true))))

pub relative_run_from-seen-requires-clause-run : goal.relative_run_from-seen-requires-clause-run
relative_run_from-seen-requires-clause-run g c =
    let r = c.args.round.now in
    let rates = rates_of (settings_in r) in
    let own = r.encounter.known.own_in_range in
    let velocity = rest_velocity (own_in r) rates g.candidate c.args.k c.args.velocity.now own r.known.accepted.rates c.requires.0 c.requires.1.0 c.requires.1.1.1 in
    rest_in_range (own_in r) rates g.candidate c.args.k (r.level.lookahead - c.args.k) (record { place = c.args.place.now; velocity = c.args.velocity.now }) own r.known.accepted.rates c.requires.0
    (omega (arith, c.if-k-round.false, r.known.in_range.lookahead_most)) c.requires.1.1.0 velocity (omega (arith, c.if-k-round.false))

pub returns : goal.returns
returns g c =
    let r = c.args.round.now in
    rest_tested (settings_in r) (own_in r) g.candidate (aircraft_in r) r.level.volume c.args.k (r.level.lookahead - c.args.k) r.level.lookahead
    (record { place = c.args.place.now; velocity = c.args.velocity.now }) c.relative_run_from-seen.result c.violates_on.result
    c.requires.1.1.0 c.requires.1.0 c.requires.1.1.1 (omega (arith, c.if-k-round.false))
    (c.relative_run_from-seen.ensures.seconds (settings_in r) (own_in r) g.candidate r.level.volume) c.violates_on.ensures
