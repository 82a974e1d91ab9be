use Rattle.std.proofs.Common.{◌∙◌, ◌*◌, ap, neg_ℤ, lit<, rules, w64, to_z-of_z}
use Rattle.daa_fixed.specs.Size.{IsWithin}
use Rattle.daa_fixed.proofs.Bounds.{fits, as_within, le_test, zero_less, zero_less-within}
use Rattle.daa_fixed.proofs.PointSizes.{IsPointInRange}
use Rattle.daa_detect.proofs.Sizes as size
use Rattle.daa_detect.proofs.Sizes.{IsMotionInRange, most_rate}
use Rattle.daa_detect.proofs.horizontal.is_closest_within.Goals as goal

pub returns : goal.returns
returns c =
    let s : IsMotionInRange c.args.motion.now = search rules in
    let t : IsPointInRange c.args.point.now = search rules in
    let u = size.small t c.requires.small in
    let w : IsWithin most_rate c.rate_at.result = as_within c.rate_at.ensures (size.rate s u) in
    let g : IsWithin (120 * 40000 * 3200000000) c.rate_gain.result = as_within c.rate_gain.ensures (size.gain s u c.requires.secs) in
    let f1 = fits w64 w (lit< tt) in
    let f2 = fits w64 g (lit< tt) in
    let f3 = fits w64 (zero_less-within c.rate_at.result w) (lit< tt) in
    simp to_z-of_z (le_test _ _ _ _ (zero_less c.rate_at.result ∙ ap neg_ℤ c.rate_at.ensures) c.rate_gain.ensures)
