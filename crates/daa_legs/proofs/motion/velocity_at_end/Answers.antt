use Rattle.std.proofs.Common.{rules, ◌∙◌, ◌≡◌, sym, ap, pos, FitsSigned, w32, to_z-of_z}
use Rattle.daa_heading.specs.Heading.{velocity_of}
use Rattle.daa_legs.specs.Branch.{velocity_there}
use Rattle.daa_legs.proofs.motion.velocity_at_end.Goals as goal

pub returns-in-Hold : goal.returns-in-Hold
unfolding velocity_there
returns-in-Hold c =
    let f1 : FitsSigned w32 c.args.own.now.vs = search rules in
    let e : c.solid_velocity.result ≡ record { flat = c.args.present.now; up = c.args.own.now.vs } = simp to_z-of_z at c.solid_velocity.ensures in
    e ∙ (λ i. record { flat = c.requires.present i; up = c.args.own.now.vs }) ∙ ap (velocity_there c.args.own.now) (sym c.in-Hold.is)

pub returns-in-Track : goal.returns-in-Track
unfolding velocity_there
returns-in-Track c =
    let f1 : FitsSigned w32 c.args.own.now.gs = search rules in
    let f2 : FitsSigned w32 c.in-Track.c = search rules in
    let f3 : FitsSigned w32 c.args.own.now.vs = search rules in
    let e : c.velocity_along.result ≡ record { flat = velocity_of c.args.own.now.gs c.in-Track.c; up = c.args.own.now.vs } = simp to_z-of_z at c.velocity_along.ensures in
    e ∙ ap (velocity_there c.args.own.now) (sym c.in-Track.is)

pub returns-in-GroundSpeed : goal.returns-in-GroundSpeed
unfolding velocity_there
returns-in-GroundSpeed c =
    let f1 : FitsSigned w32 c.in-GroundSpeed.g = search rules in
    let f2 : FitsSigned w32 c.args.own.now.trk = search rules in
    let f3 : FitsSigned w32 c.args.own.now.vs = search rules in
    let e : c.velocity_along-in-GroundSpeed.result ≡ record { flat = velocity_of c.in-GroundSpeed.g c.args.own.now.trk; up = c.args.own.now.vs } =
    simp to_z-of_z at c.velocity_along-in-GroundSpeed.ensures in
    e ∙ ap (velocity_there c.args.own.now) (sym c.in-GroundSpeed.is)

pub returns-in-VerticalSpeed : goal.returns-in-VerticalSpeed
unfolding velocity_there
returns-in-VerticalSpeed c =
    let f1 : FitsSigned w32 c.in-VerticalSpeed.w = search rules in
    let e : c.solid_velocity-in-VerticalSpeed.result ≡ record { flat = c.args.present.now; up = c.in-VerticalSpeed.w } = simp to_z-of_z at c.solid_velocity-in-VerticalSpeed.ensures in
    e ∙ (λ i. record { flat = c.requires.present i; up = c.in-VerticalSpeed.w }) ∙ ap (velocity_there c.args.own.now) (sym c.in-VerticalSpeed.is)

pub returns-in-Altitude : goal.returns-in-Altitude
unfolding velocity_there
returns-in-Altitude c =
    let e : c.solid_velocity-in-Altitude.result ≡ record { flat = c.args.present.now; up = pos 0 } = c.solid_velocity-in-Altitude.ensures in
    e ∙ (λ i. record { flat = c.requires.present i; up = pos 0 }) ∙ ap (velocity_there c.args.own.now) (sym c.in-Altitude.is)
