use Rattle.std.proofs.Common.{◌^◌, rules, ℤ, ap, ◌∙◌, subst, lit<, FitsSigned, w64, to_z-of_z}
use mir.Syntax.{w128}
use Rattle.daa_fixed.specs.declared.Flat.{Flat}
use Rattle.daa_fixed.specs.Flat.{dot_of}
use Rattle.daa_fixed.proofs.Bounds.{fits, le_test}
use Rattle.daa_margin.specs.MayViolate.{IsRootAbove}
use Rattle.daa_margin.proofs.Growth.{room_of}
use Rattle.daa_margin.proofs.MomentSizes as size
use Rattle.daa_margin.proofs.MomentSizes.{IsMomentInRange}
use Rattle.daa_margin.proofs.Rooms.{soon_is}
use Rattle.daa_margin.proofs.soon.may_be_soon.Goals as goal

pub returns : goal.returns
returns c =
    let t : IsMomentInRange c.args.moment.now = search rules in
    let f1 = fits w64 c.speed_above.ensures.size (lit< tt) in
    let f2 = fits w64 c.square_within-within.ensures.size (lit< tt) in
    let f3 = fits w64 c.root_above-reach.ensures.size (lit< tt) in
    let f4 = fits w64 c.twice_middle_error-error.ensures.size (lit< tt) in
    let f5 = fits w64 (size.d t) (lit< tt) in
    let f6 : FitsSigned w128 c.square.result = search rules in
    let f7 : FitsSigned w128 c.room.result = search rules in
    let within = simp to_z-of_z at c.square_within-within.ensures.value in
    let reach = subst (λ (z : ℤ). IsRootAbove z c.root_above-reach.result) within (simp to_z-of_z at c.root_above-reach.ensures.root) in
    let room = simp to_z-of_z at c.room.ensures in
    let error = c.twice_middle_error-error.ensures.value c.args.leg.now in
    let same = soon_is c.args.leg.now c.args.volume.now c.args.bounds.now c.args.moment.now.num c.args.moment.now.den c.speed_above.result c.root_above-reach.result
    c.speed_above.ensures.root reach in
    let test = le_test _ _ _ _ (c.square.ensures ∙ ap (λ (p : Flat). dot_of p p) (c.twice_middle.ensures.value c.args.bounds.now))
    (room ∙ (λ i. room_of c.args.moment.now.den (within i) c.root_above-reach.result (error i))) in
    simp to_z-of_z ((λ k. same.0 (test.0 k)), (λ h. test.1 (same.1 h)))
