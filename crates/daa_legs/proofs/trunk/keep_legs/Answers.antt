use Rattle.std.proofs.Common.{rules, ap, ◌≡◌, ◌<◌, ◌∙◌, sym, arith, FitsSigned, w32, w64, to_z-of_z}
use Rattle.daa_legs.specs.Motion.{velocity_on}
use Rattle.daa_legs.proofs.Branching.{rises}
use Rattle.daa_legs.proofs.trunk.keep_legs.Goals as goal

pub velocity_at_end-rest-requires-clause-present : goal.velocity_at_end-rest-requires-clause-present
velocity_at_end-rest-requires-clause-present c =
    let g : FitsSigned w32 c.args.own.now.gs = search rules in
    let t : FitsSigned w32 c.args.own.now.trk = search rules in
    simp to_z-of_z at c.velocity-present.ensures

pub keep_way-place-requires-clause-present : goal.keep_way-place-requires-clause-present
keep_way-place-requires-clause-present c =
    let g : FitsSigned w32 c.args.own.now.gs = search rules in
    let t : FitsSigned w32 c.args.own.now.trk = search rules in
    simp to_z-of_z at c.velocity-present.ensures

pub keep_way-place-requires-clause-way : goal.keep_way-place-requires-clause-way
keep_way-place-requires-clause-way c k h = c.parting_of-parting.ensures.way k (omega (arith, h, c.min-leaves.ensures))

pub keep_straight-place-requires-clause-velocity : goal.keep_straight-place-requires-clause-velocity
keep_straight-place-requires-clause-velocity c k a b =
    let f : FitsSigned w64 c.parting_of-parting.result.rise = search rules in
    let p = c.parting_of-parting.ensures in
    let later : c.parting_of-parting.result.leaves < c.parting_of-parting.result.settles = omega (arith, a, b, c.min-leaves.ensures, c.min-settles.ensures) in
    let same : c.parting_of-parting.result.leaves ≡ k = omega (arith, a, b, c.min-leaves.ensures, c.min-settles.ensures, p.near.1) in
    let last : c.own_velocity-last.result ≡ record { flat = c.velocity_at_end-rest.result.flat; up = c.parting_of-parting.result.rise } = simp to_z-of_z at c.own_velocity-last.ensures in
    let o = p.level later in
    last ∙ sym (rises c.args.own.now c.args.rates.now c.args.candidate o.0 c.parting_of-parting.result.leaves c.velocity_at_end-rest.result c.parting_of-parting.result.rise o.1
    c.velocity_at_end-rest.ensures (p.rise later))
    ∙ ap (velocity_on c.args.own.now c.args.rates.now c.args.candidate) same

pub keep_straight-requires-clause-velocity : goal.keep_straight-requires-clause-velocity
keep_straight-requires-clause-velocity c k a b = c.velocity_at_end-rest.ensures ∙ sym (c.parting_of-parting.ensures.after.there k (omega (arith, a, b, c.min-settles.ensures)))
