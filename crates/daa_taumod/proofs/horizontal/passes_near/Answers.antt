use Rattle.std.proofs.Common.{◌≡◌, ◌≤◌, ℕ, ℤ, pos, lit<, arith, rules, to_z, to_z-of_z, ◌*ℤ◌, ap}
use mir.Syntax.{w128}
use Rattle.std.proofs.lemmas.Int.{ints}
use Rattle.daa_fixed.specs.Flat.{square_of}
use Rattle.daa_fixed.specs.Size.{IsWithin}
use Rattle.daa_fixed.specs.Leg.{IsLegInRange}
use Rattle.daa_fixed.proofs.Bounds.{times, fits, as_within, le_test}
use Rattle.daa_fixed.proofs.LegSizes as size
use Rattle.daa_fixed.proofs.LegSizes.{natural}
use Rattle.daa_taumod.proofs.ClosestApproach.{passes_near-always}
use Rattle.daa_taumod.proofs.horizontal.passes_near.Goals as goal

wide : (n : ℕ) → n ≤ 360000 → to_z w128 n ≡ pos n
wide n h = omega (arith, ints)

pub overflow_mul-result : goal.overflow_mul-result
overflow_mul-result c =
    let r : IsLegInRange c.args.leg.now = search rules in
    let wm : IsWithin 3200000000000 c.cross-miss.result = as_within c.cross-miss.ensures (size.sxv r) in
    let f1 = fits w128 wm (lit< tt) in
    simp to_z-of_z (fits w128 (times wm wm) (lit< tt))

pub overflow_mul-result-3 : goal.overflow_mul-result-3
overflow_mul-result-3 c =
    let r : IsLegInRange c.args.leg.now = search rules in
    let dthr : c.args.volume.now.dthr ≤ 360000 = search rules in
    let e = wide c.args.volume.now.dthr dthr in
    let wd = natural 360000 c.args.volume.now.dthr dthr in
    let wv : IsWithin 3200000000 c.square.result = as_within c.square.ensures (size.vv r) in
    let f1 = fits w128 wv (lit< tt) in
    let f2 = fits w128 (times wd wd) (lit< tt) in
    simp (e, to_z-of_z) (fits w128 (times (times wd wd) wv) (lit< tt))

pub returns : goal.returns
returns c n d h =
    let r : IsLegInRange c.args.leg.now = search rules in
    let dthr : c.args.volume.now.dthr ≤ 360000 = search rules in
    let e = wide c.args.volume.now.dthr dthr in
    let wd = natural 360000 c.args.volume.now.dthr dthr in
    let wv : IsWithin 3200000000 c.square.result = as_within c.square.ensures (size.vv r) in
    let wm : IsWithin 3200000000000 c.cross-miss.result = as_within c.cross-miss.ensures (size.sxv r) in
    let f1 = fits w128 wv (lit< tt) in
    let f2 = fits w128 (times wd wd) (lit< tt) in
    let f3 = fits w128 (times (times wd wd) wv) (lit< tt) in
    let f4 = fits w128 wm (lit< tt) in
    let f5 = fits w128 (times wm wm) (lit< tt) in
    let always = passes_near-always c.args.leg.now c.args.volume.now n d h in
    let test = le_test _ _ _ _ (ap square_of c.cross-miss.ensures) (ap (λ (w : ℤ). pos c.args.volume.now.dthr *ℤ pos c.args.volume.now.dthr *ℤ w) c.square.ensures) in
    simp (e, to_z-of_z) ((λ t. always.0 (test.0 t)), (λ p. test.1 (always.1 p)))
