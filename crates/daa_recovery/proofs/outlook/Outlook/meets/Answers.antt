use Rattle.std.proofs.Common.{◌≡◌, ◌-◌, ◌+◌, ◌<◌, ◌∙◌, ℕ, arith}
use Rattle.daa_recovery.proofs.StraightRests.{rest_place, rest_short, rest_small, rest_slow, rest_run-in_range, run_tested}
use Rattle.daa_recovery.proofs.outlook.Outlook.meets.Goals as goal

pub returns-then-first-upto : goal.returns-then-first-upto
returns-then-first-upto c = ((λ t. absurd (cc t)), (λ m. absurd (omega (arith, c.if-first-upto.true, m.not_before, m.before))))

pub place_at-requires-clause-place : goal.place_at-requires-clause-place
place_at-requires-clause-place c = rest_small c.args.self.now c.args.candidate c.args.rest.now c.requires.rest

pub place_at-requires-clause-velocity : goal.place_at-requires-clause-velocity
place_at-requires-clause-velocity c = rest_slow c.args.self.now c.args.candidate c.args.rest.now c.requires.rest

pub place_at-requires-clause-k : goal.place_at-requires-clause-k
place_at-requires-clause-k c =
    let short = rest_short c.args.self.now c.args.candidate c.args.rest.now c.requires.rest in (c.requires.first, omega (arith, c.if-first-upto.false, c.requires.upto, short))

pub meets_on_run-requires-clause-run : goal.meets_on_run-requires-clause-run
meets_on_run-requires-clause-run c =
    let short = rest_short c.args.self.now c.args.candidate c.args.rest.now c.requires.rest in
    rest_run-in_range c.args.self.now c.args.candidate c.args.rest.now c.requires.rest c.args.first (c.args.upto - c.args.first) c.place_at.result
    (omega (arith, c.if-first-upto.false, c.requires.upto, short)) (omega (arith, c.if-first-upto.false))
    (c.place_at.ensures ∙ rest_place c.args.self.now c.args.candidate c.args.rest.now c.requires.rest c.args.first c.requires.first)

pub meets_on_run-requires-clause-k : goal.meets_on_run-requires-clause-k
meets_on_run-requires-clause-k c =
    let short = rest_short c.args.self.now c.args.candidate c.args.rest.now c.requires.rest in omega (arith, c.if-first-upto.false, c.requires.upto, short)

pub meets_on_run-requires-clause-short : goal.meets_on_run-requires-clause-short
meets_on_run-requires-clause-short c =
    let short = rest_short c.args.self.now c.args.candidate c.args.rest.now c.requires.rest in omega (arith, c.requires.upto, short)

whole : (k upto : ℕ) → k < upto → k + (upto - k) ≡ upto
whole k upto h = omega (arith, h)

pub returns : goal.returns
returns c =
    run_tested c.args.self.now c.args.candidate c.args.rest.now c.requires.rest c.args.aircraft.now c.args.volume.now c.args.first (c.args.upto - c.args.first) c.args.upto c.place_at.result
    c.meets_on_run.result c.requires.first (whole c.args.first c.args.upto (omega (arith, c.if-first-upto.false)))
    (c.place_at.ensures ∙ rest_place c.args.self.now c.args.candidate c.args.rest.now c.requires.rest c.args.first c.requires.first)
    (c.meets_on_run.ensures c.args.self.now.settings c.args.self.now.picture.own c.args.candidate)
