use Rattle.std.proofs.Common.{◌<◌, ◌≤◌, ℕ, ⊎_elim, refl, arith}
use Rattle.daa_config.specs.Settings.{rates_of}
use Rattle.daa_scan.specs.Inside.Rounds.{settings_in, own_in, aircraft_in}
use Rattle.daa_scan.proofs.Trails.{hit_meets, later_meets, meets_later, flies_as_lead}
use Rattle.daa_scan.proofs.sharing.meets_by_branch.Given.{Over}
use Rattle.daa_scan.proofs.sharing.meets_by_branch.Goals as goal
use Rattle.daa_scan.proofs.sharing.meets_by_branch.Goals.{Then-branch-last, After-meets_after, else-trail-via-then-trail+then-trail-branch+else-trail-round, else-trail-via-then-trail+else-trail-branch, else-trail-via-else-trail}

pub returns-then-trail-round : goal.returns-then-trail-round
returns-then-trail-round g c =
    let r = c.args.round.now in
    let by = c.requires.1.0 in
    let alike = flies_as_lead (own_in r) (rates_of (settings_in r)) g.candidate c.args.lead c.args.branch.now by.leads by.branch_of in (
      (λ _. hit_meets (settings_in r) (own_in r) g.candidate c.args.lead (aircraft_in r) r.level.volume c.args.branch.now.leaves r.level.lookahead alike c.args.trail.now
          c.requires.1.1.0.at.along
          c.if-trail.true c.if-trail-branch.true c.if-trail-round.true),
      (λ _. refl),
    )

never : (g : Over) (c : Then-branch-last g) (k : ℕ) → c.args.trail.now.walked ≤ k → k < c.args.branch.now.leaves → k < c.args.round.now.level.lookahead → ⊥
never g c k h a b = elim c.else-trail.branch [
  | else-trail-via-then-trail+then-trail-branch+else-trail-round w ↦ omega (arith, w.if-trail-round.false, h, a, b)
  | else-trail-via-then-trail+else-trail-branch w ↦ omega (arith, w.if-trail-branch.false, h, a, b)
  | else-trail-via-else-trail w ↦ ⊎_elim (λ e. omega (arith, e, h, a)) (λ e. omega (arith, e, h, b)) (c.requires.1.1.1 w.if-trail.false)
]

pub returns-then-branch-last : goal.returns-then-branch-last
returns-then-branch-last g c = (
  (λ t. absurd (cc t)),
  (λ m.
      let r = c.args.round.now in
      let by = c.requires.1.0 in
      let alike = flies_as_lead (own_in r) (rates_of (settings_in r)) g.candidate c.args.lead c.args.branch.now by.leads by.branch_of in
      let e = later_meets (settings_in r) (own_in r) g.candidate c.args.lead (aircraft_in r) r.level.volume c.args.branch.now.leaves r.level.lookahead alike
      c.args.trail.now c.requires.1.1.0.at.along (never g c) m in
      absurd (c.requires.1.1.0.later e.leg (omega (arith, e.before, r.known.in_range.lookahead_most)) (omega (arith, e.not_before, e.before, c.min-last.ensures, c.if-branch-last.true)) e.violates)),
)

never_later : (g : Over) (c : After-meets_after g) (k : ℕ) → c.args.trail.now.walked ≤ k → k < c.args.branch.now.leaves → k < c.args.round.now.level.lookahead → ⊥
never_later g c k h a b = elim c.else-trail.branch [
  | else-trail-via-then-trail+then-trail-branch+else-trail-round w ↦ omega (arith, w.if-trail-round.false, h, a, b)
  | else-trail-via-then-trail+else-trail-branch w ↦ omega (arith, w.if-trail-branch.false, h, a, b)
  | else-trail-via-else-trail w ↦ ⊎_elim (λ e. omega (arith, e, h, a)) (λ e. omega (arith, e, h, b)) (c.requires.1.1.1 w.if-trail.false)
]

pub returns : goal.returns
returns g c =
    let r = c.args.round.now in
    let by = c.requires.1.0 in
    let alike = flies_as_lead (own_in r) (rates_of (settings_in r)) g.candidate c.args.lead c.args.branch.now by.leads by.branch_of in (
      (λ t. meets_later (settings_in r) (own_in r) g.candidate c.args.lead (aircraft_in r) r.level.volume c.args.branch.now.leaves r.level.lookahead alike c.args.trail.now
          c.requires.1.1.0.at.along (c.meets_after.ensures.0 t)),
      (λ m. c.meets_after.ensures.1
          (later_meets (settings_in r) (own_in r) g.candidate c.args.lead (aircraft_in r) r.level.volume c.args.branch.now.leaves r.level.lookahead alike c.args.trail.now
          c.requires.1.1.0.at.along (never_later g c) m)),
    )
