use Rattle.std.proofs.Common.{◌≤◌, lit<, rules, to_z-of_z, ◌+◌, ◌*◌, ◌^◌, ◌*ℤ◌, ◌+ℤ◌, ap, ◌∙◌}
use mir.Syntax.{w128}
use Rattle.daa_fixed.specs.declared.Flat.{Flat}
use Rattle.daa_fixed.specs.Flat.{dot_of}
use Rattle.daa_fixed.specs.Size.{IsWithin}
use Rattle.daa_fixed.specs.Leg.{IsLegInRange}
use Rattle.daa_fixed.proofs.Bounds.{times, plus, fits, as_within}
use Rattle.daa_fixed.proofs.LegSizes as size
use Rattle.daa_fixed.proofs.LegSizes.{natural, room}
use Rattle.daa_fixed.proofs.PointSizes as point
use Rattle.daa_fixed.proofs.PointSizes.{IsPointInRange}
use Rattle.daa_taumod.proofs.horizontal.tau_sum.Goals as goal

pub overflow_mul-result : goal.overflow_mul-result
overflow_mul-result c =
    let r : IsLegInRange c.args.leg.now = search rules in
    let t : IsPointInRange c.args.point.now = search rules in
    let tthr : c.args.volume.now.tthr ≤ 120 = search rules in
    let wt : IsWithin (120 * 2 ^ 33) c.scaled_threshold.result = as_within c.scaled_threshold.ensures (times (natural 120 c.args.volume.now.tthr tthr) (point.d t)) in
    let wd : IsWithin (room * 40000 + room * 40000) c.dot.result = as_within c.dot.ensures (size.rate r c.place_then-place.ensures.short) in
    let f1 = fits w128 wt (lit< tt) in
    let f2 = fits w128 wd (lit< tt) in
    simp to_z-of_z (fits w128 (times wt wd) (lit< tt))

pub overflow_add-result : goal.overflow_add-result
overflow_add-result c =
    let r : IsLegInRange c.args.leg.now = search rules in
    let t : IsPointInRange c.args.point.now = search rules in
    let tthr : c.args.volume.now.tthr ≤ 120 = search rules in
    let wt : IsWithin (120 * 2 ^ 33) c.scaled_threshold.result = as_within c.scaled_threshold.ensures (times (natural 120 c.args.volume.now.tthr tthr) (point.d t)) in
    let wd : IsWithin (room * 40000 + room * 40000) c.dot.result = as_within c.dot.ensures (size.rate r c.place_then-place.ensures.short) in
    let ws : IsWithin (room * room + room * room) c.square.result = as_within c.square.ensures (size.dot c.place_then-place.ensures.short c.place_then-place.ensures.short) in
    let f1 = fits w128 wt (lit< tt) in
    let f2 = fits w128 wd (lit< tt) in
    let f3 = fits w128 (times wt wd) (lit< tt) in
    let f4 = fits w128 ws (lit< tt) in
    simp to_z-of_z (fits w128 (plus ws (times wt wd)) (lit< tt))

pub returns : goal.returns
returns c =
    let r : IsLegInRange c.args.leg.now = search rules in
    let t : IsPointInRange c.args.point.now = search rules in
    let tthr : c.args.volume.now.tthr ≤ 120 = search rules in
    let wt : IsWithin (120 * 2 ^ 33) c.scaled_threshold.result = as_within c.scaled_threshold.ensures (times (natural 120 c.args.volume.now.tthr tthr) (point.d t)) in
    let wd : IsWithin (room * 40000 + room * 40000) c.dot.result = as_within c.dot.ensures (size.rate r c.place_then-place.ensures.short) in
    let ws : IsWithin (room * room + room * room) c.square.result = as_within c.square.ensures (size.dot c.place_then-place.ensures.short c.place_then-place.ensures.short) in
    let f1 = fits w128 wt (lit< tt) in
    let f2 = fits w128 wd (lit< tt) in
    let f3 = fits w128 (times wt wd) (lit< tt) in
    let f4 = fits w128 ws (lit< tt) in
    let f5 = fits w128 (plus ws (times wt wd)) (lit< tt) in
    let squared = c.square.ensures ∙ ap (λ (p : Flat). dot_of p p) c.place_then-place.ensures.value in
    let turned = c.dot.ensures ∙ ap (λ (p : Flat). dot_of p c.args.leg.now.velocity.flat) c.place_then-place.ensures.value in
    simp to_z-of_z (λ i. squared i +ℤ c.scaled_threshold.ensures i *ℤ turned i)
