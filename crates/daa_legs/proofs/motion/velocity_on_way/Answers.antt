use Rattle.std.proofs.Common.{rules, ◌≡◌, ◌∙◌, ap, sym, subst, ℤ, pos, ◌+ℤ◌, ◌*ℤ◌, FitsSigned, w32, to_z-of_z, lit<, arith, negsuc}
use Rattle.std.proofs.lemmas.Int.{ints}
use Rattle.std.specs.Int.{int_rem_euclid}
use Rattle.daa_fixed.specs.Size.{IsFrom, IsWithin}
use Rattle.daa_fixed.specs.Toward.{toward_of}
use Rattle.daa_fixed.proofs.Bounds.{fits, plus}
use Rattle.daa_fixed.proofs.Towards.{from_within}
use Rattle.daa_heading.specs.Heading.{velocity_of}
use Rattle.daa_config.specs.declared.candidate.Candidate.{Candidate}
use Rattle.daa_config.specs.declared.candidate.Candidate.TheVariants.{Track, GroundSpeed, VerticalSpeed, Altitude}
use Rattle.daa_config.specs.Settings.{IsCandidateInRange}
use Rattle.daa_legs.specs.Motion.{velocity_on, ground_speed_on, track_on, vertical_speed_on}
use Rattle.daa_legs.specs.Inside.OnWay.{IsOnWay, step_of}
use Rattle.daa_legs.proofs.StateRanges.{own_track, own_climb}
use Rattle.daa_legs.proofs.Ways.{track_there, speed_there, climb_there, height_there, speed_small, near_round, one_is}
use Rattle.daa_legs.proofs.motion.velocity_on_way.Goals as goal
use Rattle.daa_legs.proofs.motion.velocity_on_way.Goals.{After-steps, After-steps-in-GroundSpeed}

pub returns-in-Hold : goal.returns-in-Hold
unfolding velocity_on ground_speed_on track_on vertical_speed_on
returns-in-Hold c =
    let f1 : FitsSigned w32 c.args.own.now.vs = search rules in
    let e : c.solid_velocity.result ≡ record { flat = c.args.present.now; up = c.args.own.now.vs } = simp to_z-of_z at c.solid_velocity.ensures in
    e ∙ (λ i. record { flat = c.requires.present i; up = c.args.own.now.vs }) ∙ ap (λ (x : Candidate). velocity_on c.args.own.now c.args.rates.now x c.args.k) (sym c.in-Hold.is)

-- ---- a track
angle : (c : After-steps) → c.args.own.now.trk +ℤ c.steps.result ≡ c.args.own.now.trk +ℤ pos c.args.k *ℤ step_of c.args.upper c.args.rates.now.turn
angle c = let f : FitsSigned w32 c.args.rates.now.turn = search rules in ap (λ (z : ℤ). c.args.own.now.trk +ℤ z) (simp to_z-of_z at c.steps.ensures.value)

near : (c : After-steps) → IsFrom (negsuc 359) (pos 719) (c.args.own.now.trk +ℤ c.steps.result)
near c =
    let w : IsOnWay c.args.own.now c.args.rates.now (Track c.in-Track.field-0) c.args.upper c.args.k = subst (λ (x : Candidate). IsOnWay c.args.own.now c.args.rates.now x
    c.args.upper c.args.k) c.in-Track.is c.requires.way in
    subst (λ (z : ℤ). IsFrom (negsuc 359) (pos 719) z) (sym (angle c)) (near_round c.args.own.now.trk c.args.rates.now.turn c.args.k c.args.upper (own_track c.requires.own) (omega
    (arith, ints, c.requires.rates.turn.least)) w.1)

pub round-track-requires : goal.round-track-requires
round-track-requires c =
    let f1 : FitsSigned w32 c.args.own.now.trk = search rules in
    let f2 : FitsSigned w32 c.steps.result = search rules in
    let n = near c in
    let f3 : FitsSigned w32 (c.args.own.now.trk +ℤ c.steps.result) = fits w32 (from_within 719 tt tt n) (lit< tt) in
    simp to_z-of_z n

pub returns-in-Track : goal.returns-in-Track
returns-in-Track c =
    let p = c.before.before.before.before in
    let f1 : FitsSigned w32 c.args.own.now.trk = search rules in
    let f2 : FitsSigned w32 c.steps.result = search rules in
    let f3 : FitsSigned w32 (c.args.own.now.trk +ℤ c.steps.result) = fits w32 (from_within 719 tt tt (near p)) (lit< tt) in
    let f4 : FitsSigned w32 c.round-track.result = search rules in
    let f5 : FitsSigned w32 c.args.own.now.gs = search rules in
    let f6 : FitsSigned w32 c.args.own.now.vs = search rules in
    let w : IsOnWay c.args.own.now c.args.rates.now (Track c.in-Track.field-0) c.args.upper c.args.k = subst (λ (x : Candidate). IsOnWay c.args.own.now c.args.rates.now x
    c.args.upper c.args.k) c.in-Track.is c.requires.way in
    let round : c.round-track.result ≡ int_rem_euclid (c.args.own.now.trk +ℤ c.steps.result) (pos 360) = simp to_z-of_z at c.round-track.ensures.value in
    let is : c.velocity_along.result ≡ record { flat = velocity_of c.args.own.now.gs c.round-track.result; up = c.args.own.now.vs } = simp to_z-of_z at c.velocity_along.ensures in
    track_there c.args.own.now c.args.rates.now c.in-Track.field-0 c.round-track.result c.args.k c.velocity_along.result is
    (w.0 ∙ sym (round ∙ ap (λ (z : ℤ). int_rem_euclid z (pos 360)) (angle p)))
    ∙ ap (λ (x : Candidate). velocity_on c.args.own.now c.args.rates.now x c.args.k) (sym c.in-Track.is)

-- ---- a ground speed
there : (c : After-steps-in-GroundSpeed) → toward_of c.args.own.now.gs c.in-GroundSpeed.field-0 (pos c.args.k *ℤ c.args.rates.now.gs) ≡ c.args.own.now.gs +ℤ c.steps-in-GroundSpeed.result
there c =
    let f : FitsSigned w32 c.args.rates.now.gs = search rules in
    let w : IsOnWay c.args.own.now c.args.rates.now (GroundSpeed c.in-GroundSpeed.field-0) c.args.upper c.args.k = subst (λ (x : Candidate). IsOnWay c.args.own.now c.args.rates.now x
    c.args.upper c.args.k) c.in-GroundSpeed.is c.requires.way in
    w ∙ sym (ap (λ (z : ℤ). c.args.own.now.gs +ℤ z) (simp to_z-of_z at c.steps-in-GroundSpeed.ensures.value))

speed : (c : After-steps-in-GroundSpeed) → IsFrom (pos 0) (pos 10000) (c.args.own.now.gs +ℤ c.steps-in-GroundSpeed.result)
speed c = speed_small c.args.own.now c.args.rates.now c.in-GroundSpeed.field-0 (c.args.own.now.gs +ℤ c.steps-in-GroundSpeed.result) c.args.k c.requires.own c.requires.rates (subst (λ (x :
    Candidate). IsCandidateInRange x) c.in-GroundSpeed.is c.requires.candidate) (there c)

pub velocity_at_speed-requires-clause-gs : goal.velocity_at_speed-requires-clause-gs
velocity_at_speed-requires-clause-gs c =
    let f1 : FitsSigned w32 c.args.own.now.gs = search rules in
    let f2 : FitsSigned w32 c.steps-in-GroundSpeed.result = search rules in
    let f3 : FitsSigned w32 (c.args.own.now.gs +ℤ c.steps-in-GroundSpeed.result) = fits w32 (from_within 10000 tt tt (speed c)) (lit< tt) in
    simp to_z-of_z (speed c)

pub returns-in-GroundSpeed : goal.returns-in-GroundSpeed
returns-in-GroundSpeed c =
    let p = c.before in
    let f1 : FitsSigned w32 c.args.own.now.gs = search rules in
    let f2 : FitsSigned w32 c.steps-in-GroundSpeed.result = search rules in
    let f3 : FitsSigned w32 (c.args.own.now.gs +ℤ c.steps-in-GroundSpeed.result) = fits w32 (from_within 10000 tt tt (speed p)) (lit< tt) in
    let is : c.velocity_at_speed.result ≡ record { flat = velocity_of (c.args.own.now.gs +ℤ c.steps-in-GroundSpeed.result) c.args.own.now.trk; up = c.args.own.now.vs } = simp to_z-of_z
    at c.velocity_at_speed.ensures in
    speed_there c.args.own.now c.args.rates.now c.in-GroundSpeed.field-0 (c.args.own.now.gs +ℤ c.steps-in-GroundSpeed.result) c.args.k c.velocity_at_speed.result is (there p)
    ∙ ap (λ (x : Candidate). velocity_on c.args.own.now c.args.rates.now x c.args.k) (sym c.in-GroundSpeed.is)

-- ---- a vertical speed, and an altitude
pub returns-in-VerticalSpeed : goal.returns-in-VerticalSpeed
returns-in-VerticalSpeed c =
    let f1 : FitsSigned w32 c.args.own.now.vs = search rules in
    let f2 : FitsSigned w32 c.steps-in-VerticalSpeed.result = search rules in
    let f3 : FitsSigned w32 c.args.rates.now.vs = search rules in
    let vs : IsWithin 10000 c.args.own.now.vs = from_within 10000 tt tt (own_climb c.requires.own) in
    let f4 : FitsSigned w32 (c.args.own.now.vs +ℤ c.steps-in-VerticalSpeed.result) = fits w32 (plus vs c.steps-in-VerticalSpeed.ensures.size) (lit< tt) in
    let w : IsOnWay c.args.own.now c.args.rates.now (VerticalSpeed c.in-VerticalSpeed.field-0) c.args.upper c.args.k = subst (λ (x : Candidate). IsOnWay c.args.own.now c.args.rates.now x
    c.args.upper c.args.k) c.in-VerticalSpeed.is c.requires.way in
    let is : c.solid_velocity-in-VerticalSpeed.result ≡ record { flat = c.args.present.now; up = c.args.own.now.vs +ℤ c.steps-in-VerticalSpeed.result } =
    simp to_z-of_z at c.solid_velocity-in-VerticalSpeed.ensures in
    climb_there c.args.own.now c.args.rates.now c.in-VerticalSpeed.field-0 (c.args.own.now.vs +ℤ c.steps-in-VerticalSpeed.result) c.args.k c.solid_velocity-in-VerticalSpeed.result
    (is ∙ (λ i. record { flat = c.requires.present i; up = c.args.own.now.vs +ℤ c.steps-in-VerticalSpeed.result }))
    (w ∙ sym (ap (λ (z : ℤ). c.args.own.now.vs +ℤ z) (simp to_z-of_z at c.steps-in-VerticalSpeed.ensures.value)))
    ∙ ap (λ (x : Candidate). velocity_on c.args.own.now c.args.rates.now x c.args.k) (sym c.in-VerticalSpeed.is)

pub returns-in-Altitude : goal.returns-in-Altitude
returns-in-Altitude c =
    let f2 : FitsSigned w32 c.steps-in-Altitude.result = search rules in
    let f3 : FitsSigned w32 c.args.rates.now.alt = search rules in
    let w : IsOnWay c.args.own.now c.args.rates.now (Altitude c.in-Altitude.field-0) c.args.upper c.args.k = subst (λ (x : Candidate). IsOnWay c.args.own.now c.args.rates.now x
    c.args.upper c.args.k) c.in-Altitude.is c.requires.way in
    let is : c.solid_velocity-in-Altitude.result ≡ record { flat = c.args.present.now; up = c.steps-in-Altitude.result } = simp to_z-of_z at c.solid_velocity-in-Altitude.ensures in
    height_there c.args.own.now c.args.rates.now c.in-Altitude.field-0 c.steps-in-Altitude.result c.args.k c.solid_velocity-in-Altitude.result
    (is ∙ (λ i. record { flat = c.requires.present i; up = c.steps-in-Altitude.result }))
    (w ∙ sym (one_is (step_of c.args.upper c.args.rates.now.alt) c.steps-in-Altitude.result (simp to_z-of_z at c.steps-in-Altitude.ensures.value)))
    ∙ ap (λ (x : Candidate). velocity_on c.args.own.now c.args.rates.now x c.args.k) (sym c.in-Altitude.is)
