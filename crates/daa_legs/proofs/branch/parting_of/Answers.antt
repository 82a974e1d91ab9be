use Rattle.std.proofs.Common.{rules, ◌≡◌, ◌+◌, ◌<◌, ℕ, ◌≤ℤ◌, sym, subst, ◌∙◌, FitsSigned, w32, w64, to_z-of_z, ℤ, pos, negsuc, to_z, ap, ◌*ℤ◌, arith}
use Rattle.std.proofs.lemmas.Int.{ints}
use Rattle.daa_config.specs.declared.candidate.Candidate.{Candidate}
use Rattle.daa_config.specs.declared.candidate.Candidate.TheVariants.{Track, GroundSpeed, VerticalSpeed, Altitude}
use Rattle.daa_config.specs.Settings.{IsCandidateInRange}
use Rattle.daa_legs.specs.Branch.{lead_of, FliesAs, FliesOn}
use Rattle.daa_legs.specs.Motion.{vertical_speed_on}
use Rattle.daa_fixed.specs.Size.{IsFrom}
use Rattle.daa_fixed.proofs.Bounds.{within}
use Rattle.daa_legs.proofs.StateRanges.{own_track}
use Rattle.daa_legs.proofs.LeadingFlights.{speed_branch, climb_branch, height_branch, height_rest, straight_at_once, hold_on}
use Rattle.daa_legs.proofs.Turning.{track_branch}
use Rattle.daa_legs.proofs.Ways.{track_way, speed_way, climb_way, height_way, way_is}
use Rattle.daa_legs.specs.Inside.OnWay.{IsOnWay}
use Rattle.daa_legs.proofs.Branching.{before_is, after_is, near_is, none_own, rise_is}
use Rattle.daa_legs.proofs.branch.parting_of.Goals as goal
use Rattle.daa_legs.proofs.branch.parting_of.Goals.{After-parting_after, After-parting_after-in-GroundSpeed, After-parting_after-in-VerticalSpeed, After-rest_of-rise}

pub returns-in-Hold-clause-after : goal.returns-in-Hold-clause-after
returns-in-Hold-clause-after c = subst (λ (x : Candidate). FliesOn c.args.own.now c.args.rates.now x 0) (sym c.in-Hold.is) (hold_on c.args.own.now c.args.rates.now)

tracks : (c : After-parting_after) → FliesAs c.args.own.now c.args.rates.now (Track c.in-Track.c) (lead_of c.args.own.now (Track c.in-Track.c) c.turn_away.result.upper)
    (c.turn_away.result.legs + 1) × FliesOn c.args.own.now c.args.rates.now (Track c.in-Track.c) (c.turn_away.result.legs + 1) × ((k : ℕ) → k < c.turn_away.result.legs + 1
    → IsOnWay c.args.own.now c.args.rates.now (Track c.in-Track.c) c.turn_away.result.upper k)
tracks c =
    let f1 : FitsSigned w32 c.args.own.now.trk = search rules in
    let f2 : FitsSigned w32 c.in-Track.c = search rules in
    let f3 : FitsSigned w32 c.args.rates.now.turn = search rules in
    let e = simp to_z-of_z at c.turn_away.ensures in
    let r0 : pos 0 ≤ℤ c.args.rates.now.turn = omega (arith, ints, c.requires.rates.turn.least) in
    let b = track_branch c.args.own.now c.args.rates.now c.in-Track.c c.turn_away.result.upper c.turn_away.result.legs r0 (own_track c.requires.own) (subst (λ (x : Candidate).
    IsCandidateInRange x) c.in-Track.is c.requires.candidate) e.right e.left e.right_legs e.left_legs in
    (b.0, b.1, track_way c.args.own.now c.args.rates.now c.in-Track.c c.turn_away.result.upper c.turn_away.result.legs r0 e.right e.left e.right_legs e.left_legs)

pub returns-in-Track-clause-before : goal.returns-in-Track-clause-before
returns-in-Track-clause-before c = before_is c.args.own.now c.args.rates.now _ _ _ _ c.in-Track.is c.parting_after.ensures (tracks c).0

pub returns-in-Track-clause-after : goal.returns-in-Track-clause-after
returns-in-Track-clause-after c = after_is c.args.own.now c.args.rates.now _ _ _ _ c.in-Track.is c.parting_after.ensures (tracks c).1

pub returns-in-Track-clause-near : goal.returns-in-Track-clause-near
returns-in-Track-clause-near c = near_is _ _ c.parting_after.ensures (omega arith) (omega arith)

speeds : (c : After-parting_after-in-GroundSpeed)
    → FliesAs c.args.own.now c.args.rates.now (GroundSpeed c.in-GroundSpeed.g) (lead_of c.args.own.now (GroundSpeed c.in-GroundSpeed.g) c.way_to.result.upper)
    (c.way_to.result.legs + 1) × FliesOn c.args.own.now c.args.rates.now (GroundSpeed c.in-GroundSpeed.g) (c.way_to.result.legs + 1) × ((k : ℕ) → k < c.way_to.result.legs + 1
    → IsOnWay c.args.own.now c.args.rates.now (GroundSpeed c.in-GroundSpeed.g) c.way_to.result.upper k)
speeds c =
    let n1 : FitsSigned w32 c.args.own.now.gs = search rules in
    let n2 : FitsSigned w32 c.in-GroundSpeed.g = search rules in
    let n3 : FitsSigned w32 c.args.rates.now.gs = search rules in
    let n4 : FitsSigned w64 c.from.result = search rules in
    let n5 : FitsSigned w64 c.from-in-GroundSpeed.result = search rules in
    let now : c.from.result ≡ c.args.own.now.gs = simp to_z-of_z at c.from.ensures in
    let to : c.from-in-GroundSpeed.result ≡ c.in-GroundSpeed.g = simp to_z-of_z at c.from-in-GroundSpeed.ensures in
    let n6 : FitsSigned w64 c.args.own.now.gs = subst (λ (z : ℤ). FitsSigned w64 z) now n4 in
    let n7 : FitsSigned w64 c.in-GroundSpeed.g = subst (λ (z : ℤ). FitsSigned w64 z) to n5 in
    let e = simp (now, to, to_z-of_z) at c.way_to.ensures in
    let r0 : pos 0 ≤ℤ c.args.rates.now.gs = omega (arith, ints, c.requires.rates.gs.least) in
    let b = speed_branch c.args.own.now c.args.rates.now c.in-GroundSpeed.g c.way_to.result.upper c.way_to.result.legs r0 (subst (λ (x : Candidate). IsCandidateInRange x) c.in-GroundSpeed.is
    c.requires.candidate) e.up e.down e.up_legs e.down_legs in
    (b.0, b.1, speed_way c.args.own.now c.args.rates.now c.in-GroundSpeed.g c.way_to.result.upper c.way_to.result.legs r0 e.up e.down e.up_legs e.down_legs)

pub returns-in-GroundSpeed-clause-before : goal.returns-in-GroundSpeed-clause-before
returns-in-GroundSpeed-clause-before c = before_is c.args.own.now c.args.rates.now _ _ _ _ c.in-GroundSpeed.is c.parting_after-in-GroundSpeed.ensures (speeds c).0

pub returns-in-GroundSpeed-clause-after : goal.returns-in-GroundSpeed-clause-after
returns-in-GroundSpeed-clause-after c = after_is c.args.own.now c.args.rates.now _ _ _ _ c.in-GroundSpeed.is c.parting_after-in-GroundSpeed.ensures (speeds c).1

pub returns-in-GroundSpeed-clause-near : goal.returns-in-GroundSpeed-clause-near
returns-in-GroundSpeed-clause-near c = near_is _ _ c.parting_after-in-GroundSpeed.ensures (omega arith) (omega arith)

climbs : (c : After-parting_after-in-VerticalSpeed) → FliesAs c.args.own.now c.args.rates.now (VerticalSpeed c.in-VerticalSpeed.w) (lead_of c.args.own.now (VerticalSpeed c.in-VerticalSpeed.w)
    c.way_to-in-VerticalSpeed.result.upper) (c.way_to-in-VerticalSpeed.result.legs + 1)
    × FliesOn c.args.own.now c.args.rates.now (VerticalSpeed c.in-VerticalSpeed.w) (c.way_to-in-VerticalSpeed.result.legs + 1)
    × ((k : ℕ) → k < c.way_to-in-VerticalSpeed.result.legs + 1 → IsOnWay c.args.own.now c.args.rates.now (VerticalSpeed c.in-VerticalSpeed.w) c.way_to-in-VerticalSpeed.result.upper k)
climbs c =
    let n1 : FitsSigned w32 c.args.own.now.vs = search rules in
    let n2 : FitsSigned w32 c.in-VerticalSpeed.w = search rules in
    let n3 : FitsSigned w32 c.args.rates.now.vs = search rules in
    let n4 : FitsSigned w64 c.from-in-VerticalSpeed.result = search rules in
    let n5 : FitsSigned w64 c.from-in-VerticalSpeed-2.result = search rules in
    let now : c.from-in-VerticalSpeed.result ≡ c.args.own.now.vs = simp to_z-of_z at c.from-in-VerticalSpeed.ensures in
    let to : c.from-in-VerticalSpeed-2.result ≡ c.in-VerticalSpeed.w = simp to_z-of_z at c.from-in-VerticalSpeed-2.ensures in
    let n6 : FitsSigned w64 c.args.own.now.vs = subst (λ (z : ℤ). FitsSigned w64 z) now n4 in
    let n7 : FitsSigned w64 c.in-VerticalSpeed.w = subst (λ (z : ℤ). FitsSigned w64 z) to n5 in
    let e = simp (now, to, to_z-of_z) at c.way_to-in-VerticalSpeed.ensures in
    let r0 : pos 0 ≤ℤ c.args.rates.now.vs = omega (arith, ints, c.requires.rates.vs.least) in
    let b = climb_branch c.args.own.now c.args.rates.now c.in-VerticalSpeed.w c.way_to-in-VerticalSpeed.result.upper c.way_to-in-VerticalSpeed.result.legs r0
    (subst (λ (x : Candidate). IsCandidateInRange x) c.in-VerticalSpeed.is c.requires.candidate) e.up e.down e.up_legs e.down_legs in
    (b.0, b.1, climb_way c.args.own.now c.args.rates.now c.in-VerticalSpeed.w c.way_to-in-VerticalSpeed.result.upper c.way_to-in-VerticalSpeed.result.legs r0 e.up e.down e.up_legs e.down_legs)

pub returns-in-VerticalSpeed-clause-before : goal.returns-in-VerticalSpeed-clause-before
returns-in-VerticalSpeed-clause-before c = before_is c.args.own.now c.args.rates.now _ _ _ _ c.in-VerticalSpeed.is c.parting_after-in-VerticalSpeed.ensures (climbs c).0

pub returns-in-VerticalSpeed-clause-after : goal.returns-in-VerticalSpeed-clause-after
returns-in-VerticalSpeed-clause-after c = after_is c.args.own.now c.args.rates.now _ _ _ _ c.in-VerticalSpeed.is c.parting_after-in-VerticalSpeed.ensures (climbs c).1

pub returns-in-VerticalSpeed-clause-near : goal.returns-in-VerticalSpeed-clause-near
returns-in-VerticalSpeed-clause-near c = near_is _ _ c.parting_after-in-VerticalSpeed.ensures (omega arith) (omega arith)

pub returns-in-Track-clause-level : goal.returns-in-Track-clause-level
returns-in-Track-clause-level c h = absurd (none_own _ _ c.parting_after.ensures (omega arith) h)

pub returns-in-GroundSpeed-clause-level : goal.returns-in-GroundSpeed-clause-level
returns-in-GroundSpeed-clause-level c h = absurd (none_own _ _ c.parting_after-in-GroundSpeed.ensures (omega arith) h)

pub returns-in-VerticalSpeed-clause-level : goal.returns-in-VerticalSpeed-clause-level
returns-in-VerticalSpeed-clause-level c h = absurd (none_own _ _ c.parting_after-in-VerticalSpeed.ensures (omega arith) h)

heights : (c : After-rest_of-rise) → FliesAs c.args.own.now c.args.rates.now (Altitude c.in-Altitude.a) (lead_of c.args.own.now (Altitude c.in-Altitude.a) c.way_to-way.result.upper)
    c.way_to-way.result.legs × FliesOn c.args.own.now c.args.rates.now (Altitude c.in-Altitude.a) (c.way_to-way.result.legs + 1)
    × (c.rest_of-rise.result ≡ vertical_speed_on c.args.own.now c.args.rates.now (Altitude c.in-Altitude.a) c.way_to-way.result.legs) × ((k : ℕ) → k < c.way_to-way.result.legs
    → IsOnWay c.args.own.now c.args.rates.now (Altitude c.in-Altitude.a) c.way_to-way.result.upper k)
heights c =
    let n1 : FitsSigned w32 c.args.own.now.alt = search rules in
    let n2 : FitsSigned w32 c.in-Altitude.a = search rules in
    let n3 : FitsSigned w32 c.args.rates.now.alt = search rules in
    let n4 : FitsSigned w64 c.feet-now.result = search rules in
    let n5 : FitsSigned w64 c.feet-target.result = search rules in
    let now : c.feet-now.result ≡ pos 60 *ℤ c.args.own.now.alt = simp to_z-of_z at c.feet-now.ensures in
    let to : c.feet-target.result ≡ pos 60 *ℤ c.in-Altitude.a = simp to_z-of_z at c.feet-target.ensures in
    let n6 : FitsSigned w64 (pos 60 *ℤ c.args.own.now.alt) = subst (λ (z : ℤ). FitsSigned w64 z) now n4 in
    let n7 : FitsSigned w64 (pos 60 *ℤ c.in-Altitude.a) = subst (λ (z : ℤ). FitsSigned w64 z) to n5 in
    let e = simp (now, to, to_z-of_z) at c.way_to-way.ensures in
    let r = simp (now, to, to_z-of_z) at c.rest_of-rise.ensures in
    let r0 : pos 0 ≤ℤ c.args.rates.now.alt = omega (arith, ints, c.requires.rates.alt.least) in
    let b = height_branch c.args.own.now c.args.rates.now c.in-Altitude.a c.way_to-way.result.upper c.way_to-way.result.legs r0 (subst (λ (x : Candidate). IsCandidateInRange x)
    c.in-Altitude.is c.requires.candidate) e.up e.down e.up_legs e.down_legs in (
      b.0,
      b.1,
      height_rest c.args.own.now c.args.rates.now c.in-Altitude.a c.way_to-way.result.upper c.way_to-way.result.legs c.rest_of-rise.result r0 e.up e.down e.up_legs e.down_legs r.up r.down,
      height_way c.args.own.now c.args.rates.now c.in-Altitude.a c.way_to-way.result.upper c.way_to-way.result.legs r0 e.up e.down e.up_legs e.down_legs,
    )

pub rest_of-rise-requires-clause-target : goal.rest_of-rise-requires-clause-target
rest_of-rise-requires-clause-target c =
    let n2 : FitsSigned w32 c.in-Altitude.a = search rules in
    let n5 : FitsSigned w64 c.feet-target.result = search rules in
    let to : c.feet-target.result ≡ pos 60 *ℤ c.in-Altitude.a = simp to_z-of_z at c.feet-target.ensures in
    let n7 : FitsSigned w64 (pos 60 *ℤ c.in-Altitude.a) = subst (λ (z : ℤ). FitsSigned w64 z) to n5 in
    let r : IsFrom (negsuc 1999) (pos 60000) c.in-Altitude.a = subst (λ (x : Candidate). IsCandidateInRange x) c.in-Altitude.is c.requires.candidate in
    simp (to, to_z-of_z) (within 3600000 (pos 60 *ℤ c.in-Altitude.a) (omega (arith, ints, r.least)) (omega (arith, ints, r.most)))

pub returns-then-rise-eq0-clause-before : goal.returns-then-rise-eq0-clause-before
returns-then-rise-eq0-clause-before c = before_is c.args.own.now c.args.rates.now _ _ _ _ c.in-Altitude.is c.parting_at.ensures (heights c.before.before).0

pub returns-then-rise-eq0-clause-after : goal.returns-then-rise-eq0-clause-after
returns-then-rise-eq0-clause-after c =
    let n : FitsSigned w64 c.rest_of-rise.result = search rules in
    let none : c.rest_of-rise.result ≡ pos 0 = sym (to_z-of_z n) ∙ ap (to_z w64) c.if-rise-eq0.true in
    after_is c.args.own.now c.args.rates.now _ _ _ _ c.in-Altitude.is c.parting_at.ensures
    (straight_at_once c.args.own.now c.args.rates.now c.in-Altitude.a c.way_to-way.result.legs (sym (heights c.before.before).2 ∙ none) (heights c.before.before).1)

pub returns-then-rise-eq0-clause-near : goal.returns-then-rise-eq0-clause-near
returns-then-rise-eq0-clause-near c = near_is _ _ c.parting_at.ensures (omega arith) (omega arith)

pub returns-then-rise-eq0-clause-level : goal.returns-then-rise-eq0-clause-level
returns-then-rise-eq0-clause-level c h = absurd (none_own _ _ c.parting_at.ensures (omega arith) h)

pub returns-then-rise-eq0-clause-rise : goal.returns-then-rise-eq0-clause-rise
returns-then-rise-eq0-clause-rise c h = absurd (none_own _ _ c.parting_at.ensures (omega arith) h)

pub returns-else-rise-eq0-clause-before : goal.returns-else-rise-eq0-clause-before
returns-else-rise-eq0-clause-before c = before_is c.args.own.now c.args.rates.now _ _ _ _ c.in-Altitude.is c.parting_short_of.ensures (heights c.before.before).0

pub returns-else-rise-eq0-clause-after : goal.returns-else-rise-eq0-clause-after
returns-else-rise-eq0-clause-after c = after_is c.args.own.now c.args.rates.now _ _ _ _ c.in-Altitude.is c.parting_short_of.ensures (heights c.before.before).1

pub returns-else-rise-eq0-clause-near : goal.returns-else-rise-eq0-clause-near
returns-else-rise-eq0-clause-near c = near_is _ _ c.parting_short_of.ensures (omega arith) (omega arith)

pub returns-else-rise-eq0-clause-level : goal.returns-else-rise-eq0-clause-level
returns-else-rise-eq0-clause-level c h = (_, c.in-Altitude.is)

pub returns-else-rise-eq0-clause-rise : goal.returns-else-rise-eq0-clause-rise
returns-else-rise-eq0-clause-rise c _ =
    let n : FitsSigned w64 c.rest_of-rise.result = search rules in
    rise_is c.args.own.now c.args.rates.now _ _ _ _ c.in-Altitude.is c.parting_short_of.ensures (to_z-of_z n ∙ (heights c.before.before).2)

pub returns-in-Track-clause-rise : goal.returns-in-Track-clause-rise
returns-in-Track-clause-rise c h = absurd (none_own _ _ c.parting_after.ensures (omega arith) h)

pub returns-in-GroundSpeed-clause-rise : goal.returns-in-GroundSpeed-clause-rise
returns-in-GroundSpeed-clause-rise c h = absurd (none_own _ _ c.parting_after-in-GroundSpeed.ensures (omega arith) h)

pub returns-in-VerticalSpeed-clause-rise : goal.returns-in-VerticalSpeed-clause-rise
returns-in-VerticalSpeed-clause-rise c h = absurd (none_own _ _ c.parting_after-in-VerticalSpeed.ensures (omega arith) h)

-- the way of its value
pub returns-in-Track-clause-way : goal.returns-in-Track-clause-way
returns-in-Track-clause-way c = way_is c.args.own.now c.args.rates.now _ _ _ _ c.in-Track.is c.parting_after.ensures (tracks c).2

pub returns-in-GroundSpeed-clause-way : goal.returns-in-GroundSpeed-clause-way
returns-in-GroundSpeed-clause-way c = way_is c.args.own.now c.args.rates.now _ _ _ _ c.in-GroundSpeed.is c.parting_after-in-GroundSpeed.ensures (speeds c).2

pub returns-in-VerticalSpeed-clause-way : goal.returns-in-VerticalSpeed-clause-way
returns-in-VerticalSpeed-clause-way c = way_is c.args.own.now c.args.rates.now _ _ _ _ c.in-VerticalSpeed.is c.parting_after-in-VerticalSpeed.ensures (climbs c).2

pub returns-then-rise-eq0-clause-way : goal.returns-then-rise-eq0-clause-way
returns-then-rise-eq0-clause-way c = way_is c.args.own.now c.args.rates.now _ _ _ _ c.in-Altitude.is c.parting_at.ensures (heights c.before.before).3

pub returns-else-rise-eq0-clause-way : goal.returns-else-rise-eq0-clause-way
returns-else-rise-eq0-clause-way c = way_is c.args.own.now c.args.rates.now _ _ _ _ c.in-Altitude.is c.parting_short_of.ensures (heights c.before.before).3
