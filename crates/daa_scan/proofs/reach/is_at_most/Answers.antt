use Rattle.std.proofs.Common.{rules, ◌≡◌, ◌^◌, ◌≤◌, ◌+ℤ◌, ◌*ℤ◌, FitsSigned, w64, to_z-of_z, lit<, arith}
use Rattle.daa_fixed.specs.Size.{IsWithin}
use Rattle.daa_fixed.proofs.Bounds.{fits, times, plus, as_within, le_test}
use Rattle.daa_fixed.proofs.LegSizes.{natural}
use Rattle.daa_scan.specs.Reach.{size_of}
use Rattle.daa_scan.proofs.reach.is_at_most.Goals as goal

pub returns : goal.returns
returns c =
    let near : c.args.near ≤ 2 ^ 32 = omega (arith, c.ranges.near) in
    let wn : IsWithin (2 ^ 32) c.from.result = as_within c.from.ensures (natural (2 ^ 32) c.args.near near) in
    let ws : IsWithin 300 c.from-2.result = as_within c.from-2.ensures (natural 300 c.args.secs c.requires.secs) in
    let f1 : FitsSigned w64 c.args.coordinate = search rules in
    let f2 : FitsSigned w64 c.args.speed = search rules in
    let f3 : FitsSigned w64 c.abs.result = search rules in
    let f4 : FitsSigned w64 c.from.result = search rules in
    let f5 : FitsSigned w64 c.from-2.result = search rules in
    let f6 : FitsSigned w64 (c.from-2.result *ℤ c.args.speed) = fits w64 (times ws c.requires.speed) (lit< tt) in
    let f7 : FitsSigned w64 (c.from.result +ℤ c.from-2.result *ℤ c.args.speed) = fits w64 (plus wn (times ws c.requires.speed)) (lit< tt) in
    let e : c.abs.result ≡ size_of c.args.coordinate = simp to_z-of_z at c.abs.ensures.value in
    simp to_z-of_z (le_test _ _ _ _ e (λ i. c.from.ensures i +ℤ c.from-2.ensures i *ℤ c.args.speed))
