use Rattle.std.proofs.Common.{◌*◌, ◌+◌, pos, ◌-ℤ◌, ◌*ℤ◌, lit<, arith, w64, to_z-of_z, ap, ◌∙◌}
use mir.Syntax.{w128}
use Rattle.daa_fixed.specs.declared.Flat.{Flat}
use Rattle.daa_fixed.specs.Flat.{dot_of}
use Rattle.daa_fixed.specs.Size.{IsWithin}
use Rattle.daa_fixed.proofs.Bounds.{times, minus, fits, as_within}
use Rattle.daa_fixed.proofs.LegSizes as size
use Rattle.daa_fixed.proofs.LegSizes.{natural, room}
use Rattle.daa_margin.proofs.MomentSizes.{wide_kept}
use Rattle.daa_margin.proofs.near.slope_at.Goals as goal

pub overflow_mul-result : goal.overflow_mul-result
overflow_mul-result c =
    let e = wide_kept c.args.bounds.now.speed (omega (arith, c.requires.bounds.speed)) in
    let wr = c.radius_then-radius.ensures.size in
    let f1 = fits w64 wr (lit< tt) in
    let f2 = fits w128 wr (lit< tt) in
    simp (e, to_z-of_z) (fits w128 (times (natural 30000 c.args.bounds.now.speed c.requires.bounds.speed) wr) (lit< tt))

pub overflow_sub-result : goal.overflow_sub-result
overflow_sub-result c =
    let e = wide_kept c.args.bounds.now.speed (omega (arith, c.requires.bounds.speed)) in
    let wr = c.radius_then-radius.ensures.size in
    let wg = times (natural 30000 c.args.bounds.now.speed c.requires.bounds.speed) wr in
    let wd : IsWithin (room * 40000 + room * 40000) c.dot.result = as_within c.dot.ensures (size.rate c.requires.leg c.place_then.ensures.short) in
    let f1 = fits w64 wr (lit< tt) in
    let f2 = fits w128 wr (lit< tt) in
    let f3 = fits w128 wg (lit< tt) in
    let f4 = fits w128 wd (lit< tt) in
    simp (e, to_z-of_z) (fits w128 (minus wd wg) (lit< tt))

pub returns : goal.returns
returns c =
    let e = wide_kept c.args.bounds.now.speed (omega (arith, c.requires.bounds.speed)) in
    let wr = c.radius_then-radius.ensures.size in
    let wg = times (natural 30000 c.args.bounds.now.speed c.requires.bounds.speed) wr in
    let wd : IsWithin (room * 40000 + room * 40000) c.dot.result = as_within c.dot.ensures (size.rate c.requires.leg c.place_then.ensures.short) in
    let f1 = fits w64 wr (lit< tt) in
    let f2 = fits w128 wr (lit< tt) in
    let f3 = fits w128 wg (lit< tt) in
    let f4 = fits w128 wd (lit< tt) in
    let f5 = fits w128 (minus wd wg) (lit< tt) in
    let moved = c.dot.ensures ∙ ap (λ (p : Flat). dot_of p c.args.leg.now.velocity.flat) c.place_then.ensures.value in
    simp (e, to_z-of_z) (λ i. moved i -ℤ pos c.args.bounds.now.speed *ℤ c.radius_then-radius.ensures.value i)
