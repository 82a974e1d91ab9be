use Rattle.std.proofs.Common.{FitsSigned, ℤ, ◌*ℤ◌, ap, neg_ℤ, ◌∙◌, lit<, rules, w64, to_z-of_z}
use mir.Syntax.{w128}
use Rattle.daa_fixed.specs.Size.{IsWithin}
use Rattle.daa_fixed.proofs.Bounds.{times, fits, as_within, le_test, zero_less, zero_less-within}
use Rattle.daa_fixed.specs.Leg.{IsLegInRange}
use Rattle.daa_fixed.specs.Flat.{square_of}
use Rattle.daa_fixed.proofs.LegSizes as leg
use Rattle.daa_fixed.proofs.PointSizes.{IsPointInRange}
use Rattle.daa_detect.proofs.Sizes as size
use Rattle.daa_detect.proofs.Sizes.{of_motion}
use Rattle.daa_detect.proofs.horizontal.is_tau_within.Goals as goal

pub overflow_mul-miss : goal.overflow_mul-miss
overflow_mul-miss c =
    let t : IsPointInRange c.args.point.now = search rules in
    let u = size.small t c.requires.small in
    let r : IsLegInRange c.args.leg.now = search rules in
    let x : IsWithin 3200000000000 c.miss.result = as_within c.miss.ensures (leg.sxv r) in
    let y = times u.den x in
    let f6 = fits w64 x (lit< tt) in
    simp (to_z-of_z, of_motion) (fits w64 y (lit< tt))

pub overflow_mul-result : goal.overflow_mul-result
overflow_mul-result c =
    let t : IsPointInRange c.args.point.now = search rules in
    let u = size.small t c.requires.small in
    let r : IsLegInRange c.args.leg.now = search rules in
    let x : IsWithin 3200000000000 c.miss.result = as_within c.miss.ensures (leg.sxv r) in
    let y = times u.den x in
    let f6 = fits w64 x (lit< tt) in
    let f7 = fits w64 y (lit< tt) in
    let f8 = fits w128 y (lit< tt) in
    simp (to_z-of_z, of_motion) (fits w128 (times y y) (lit< tt))

pub overflow_sub-result : goal.overflow_sub-result
overflow_sub-result c =
    let t : IsPointInRange c.args.point.now = search rules in
    let u = size.small t c.requires.small in
    let r : IsLegInRange c.args.leg.now = search rules in
    let x : IsWithin 3200000000000 c.miss.result = as_within c.miss.ensures (leg.sxv r) in
    let y = times u.den x in
    let f6 = fits w64 x (lit< tt) in
    let f7 = fits w64 y (lit< tt) in
    let f8 = fits w128 y (lit< tt) in
    let f9 = fits w128 (times y y) (lit< tt) in
    simp (to_z-of_z, of_motion) (fits w128 (zero_less-within _ (times y y)) (lit< tt))

pub returns : goal.returns
returns c =
    let t : IsPointInRange c.args.point.now = search rules in
    let u = size.small t c.requires.small in
    let r : IsLegInRange c.args.leg.now = search rules in
    let x : IsWithin 3200000000000 c.miss.result = as_within c.miss.ensures (leg.sxv r) in
    let y = times u.den x in
    let f6 = fits w64 x (lit< tt) in
    let f7 = fits w64 y (lit< tt) in
    let f8 = fits w128 y (lit< tt) in
    let f9 = fits w128 (times y y) (lit< tt) in
    let f10 = fits w128 (zero_less-within _ (times y y)) (lit< tt) in
    let f11 : FitsSigned w128 c.rate_product.result = search rules in
    let missed = ap (λ (z : ℤ). neg_ℤ (square_of (c.args.point.now.den *ℤ z))) c.miss.ensures in
    simp (to_z-of_z, of_motion) (le_test _ _ _ _ c.rate_product.ensures
    (zero_less (square_of (c.args.point.now.den *ℤ c.miss.result)) ∙ missed))
