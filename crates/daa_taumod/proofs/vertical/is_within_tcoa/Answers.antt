use Rattle.std.proofs.Common.{◌≡◌, ◌≤◌, ℤ, pos, rules, ◌*ℤ◌, ◌*◌, ◌^◌, w64, to_z-of_z, lit<, ap, ◌∙◌, unsigned_abs}
use mir.Syntax.{w128}
use Rattle.daa_fixed.specs.Size.{IsWithin}
use Rattle.daa_fixed.specs.Leg.{IsLegInRange}
use Rattle.daa_fixed.proofs.Bounds.{times, fits, as_within, below, le_test}
use Rattle.daa_fixed.proofs.LegSizes.{natural}
use Rattle.daa_fixed.proofs.PointSizes as point
use Rattle.daa_fixed.proofs.PointSizes.{IsPointInRange}
use Rattle.daa_taumod.proofs.vertical.is_within_tcoa.Goals as goal

pub overflow_mul-result : goal.overflow_mul-result
overflow_mul-result c =
    let r : IsLegInRange c.args.leg.now = search rules in
    let t : IsPointInRange c.args.point.now = search rules in
    let tcoa : c.args.volume.now.tcoa ≤ 120 = search rules in
    let v : IsWithin 40000 c.args.leg.now.velocity.up = below r.up_speed in
    let speed : c.abs-speed.result ≡ pos (unsigned_abs c.args.leg.now.velocity.up) = c.abs-speed.ensures.value ∙ ap (λ (w : ℤ). pos (unsigned_abs w)) (to_z-of_z (fits w64 v (lit< tt))) in
    let ws : IsWithin 40000 c.abs-speed.result = as_within speed (natural 40000 (unsigned_abs c.args.leg.now.velocity.up) v.size) in
    let wt : IsWithin (120 * 2 ^ 33) c.scaled_threshold.result = as_within c.scaled_threshold.ensures (times (natural 120 c.args.volume.now.tcoa tcoa) (point.d t)) in
    let f1 = fits w64 ws (lit< tt) in
    let f2 = fits w128 ws (lit< tt) in
    let f3 = fits w128 wt (lit< tt) in
    simp to_z-of_z (fits w128 (times wt ws) (lit< tt))

pub returns : goal.returns
returns c =
    let r : IsLegInRange c.args.leg.now = search rules in
    let t : IsPointInRange c.args.point.now = search rules in
    let tcoa : c.args.volume.now.tcoa ≤ 120 = search rules in
    let v : IsWithin 40000 c.args.leg.now.velocity.up = below r.up_speed in
    let h : IsWithin (2 ^ 59) c.height_then.result = c.height_then.ensures.size in
    let speed : c.abs-speed.result ≡ pos (unsigned_abs c.args.leg.now.velocity.up) = c.abs-speed.ensures.value ∙ ap (λ (w : ℤ). pos (unsigned_abs w)) (to_z-of_z (fits w64 v (lit< tt))) in
    let height : c.abs.result ≡ pos (unsigned_abs c.height_then.result) = c.abs.ensures.value ∙ ap (λ (w : ℤ). pos (unsigned_abs w)) (to_z-of_z (fits w64 h (lit< tt))) in
    let ws : IsWithin 40000 c.abs-speed.result = as_within speed (natural 40000 (unsigned_abs c.args.leg.now.velocity.up) v.size) in
    let wh : IsWithin (2 ^ 59) c.abs.result = as_within height (natural (2 ^ 59) (unsigned_abs c.height_then.result) h.size) in
    let wt : IsWithin (120 * 2 ^ 33) c.scaled_threshold.result = as_within c.scaled_threshold.ensures (times (natural 120 c.args.volume.now.tcoa tcoa) (point.d t)) in
    let f1 = fits w64 ws (lit< tt) in
    let f2 = fits w128 ws (lit< tt) in
    let f3 = fits w128 wt (lit< tt) in
    let f4 = fits w128 (times wt ws) (lit< tt) in
    let f5 = fits w64 wh (lit< tt) in
    let f6 = fits w128 wh (lit< tt) in
    simp to_z-of_z (le_test _ _ _ _ (height ∙ ap (λ (w : ℤ). pos (unsigned_abs w)) c.height_then.ensures.value) (λ i. c.scaled_threshold.ensures i *ℤ speed i))
