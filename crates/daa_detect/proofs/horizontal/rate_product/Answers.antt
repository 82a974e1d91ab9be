use Rattle.std.proofs.Common.{◌*◌, ◌+ℤ◌, ◌*ℤ◌, lit<, rules, w64, to_z-of_z}
use mir.Syntax.{w128}
use Rattle.daa_fixed.specs.Size.{IsWithin}
use Rattle.daa_fixed.proofs.Bounds.{times, plus, fits, as_within}
use Rattle.daa_fixed.proofs.PointSizes.{IsPointInRange}
use Rattle.daa_detect.proofs.Sizes as size
use Rattle.daa_detect.proofs.Sizes.{IsMotionInRange, most_rate}
use Rattle.daa_detect.proofs.horizontal.rate_product.Goals as goal

pub overflow_add-later : goal.overflow_add-later
overflow_add-later c =
    let s : IsMotionInRange c.args.motion.now = search rules in
    let t : IsPointInRange c.args.point.now = search rules in
    let u = size.small t c.requires.small in
    let w : IsWithin most_rate c.rate_at-rate.result = as_within c.rate_at-rate.ensures (size.rate s u) in
    let g : IsWithin (120 * 40000 * 3200000000) c.rate_gain.result = as_within c.rate_gain.ensures (size.gain s u c.requires.secs) in
    let f1 = fits w64 w (lit< tt) in
    let f2 = fits w64 g (lit< tt) in
    simp to_z-of_z (fits w64 (plus w g) (lit< tt))

pub overflow_mul-result : goal.overflow_mul-result
overflow_mul-result c =
    let s : IsMotionInRange c.args.motion.now = search rules in
    let t : IsPointInRange c.args.point.now = search rules in
    let u = size.small t c.requires.small in
    let w : IsWithin most_rate c.rate_at-rate.result = as_within c.rate_at-rate.ensures (size.rate s u) in
    let g : IsWithin (120 * 40000 * 3200000000) c.rate_gain.result = as_within c.rate_gain.ensures (size.gain s u c.requires.secs) in
    let f1 = fits w64 w (lit< tt) in
    let f2 = fits w64 g (lit< tt) in
    let f3 = fits w64 (plus w g) (lit< tt) in
    let f4 = fits w128 w (lit< tt) in
    let f5 = fits w128 (plus w g) (lit< tt) in
    simp to_z-of_z (fits w128 (times w (plus w g)) (lit< tt))

pub returns : goal.returns
returns c =
    let s : IsMotionInRange c.args.motion.now = search rules in
    let t : IsPointInRange c.args.point.now = search rules in
    let u = size.small t c.requires.small in
    let w : IsWithin most_rate c.rate_at-rate.result = as_within c.rate_at-rate.ensures (size.rate s u) in
    let g : IsWithin (120 * 40000 * 3200000000) c.rate_gain.result = as_within c.rate_gain.ensures (size.gain s u c.requires.secs) in
    let f1 = fits w64 w (lit< tt) in
    let f2 = fits w64 g (lit< tt) in
    let f3 = fits w64 (plus w g) (lit< tt) in
    let f4 = fits w128 w (lit< tt) in
    let f5 = fits w128 (plus w g) (lit< tt) in
    let f6 = fits w128 (times w (plus w g)) (lit< tt) in
    simp to_z-of_z (λ i. c.rate_at-rate.ensures i *ℤ (c.rate_at-rate.ensures i +ℤ c.rate_gain.ensures i))
