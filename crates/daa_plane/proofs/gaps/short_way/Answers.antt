use Rattle.std.proofs.Common.{rules, ◌≡◌, ap, ℤ, pos, ◌+ℤ◌, ◌-ℤ◌, FitsSigned, w64, to_z-of_z, arith, lit<}
use Rattle.std.specs.Int.{int_rem_euclid}
use Rattle.std.proofs.lemmas.Int.{ints}
use Rattle.daa_fixed.specs.Size.{IsWithin}
use Rattle.daa_fixed.proofs.Bounds.{fits, plus}
use Rattle.daa_plane.specs.Gaps.{short_way}
use Rattle.daa_plane.proofs.Sizes.{literal}
use Rattle.daa_plane.proofs.gaps.short_way.Goals as goal

pub returns : goal.returns
unfolding short_way
returns c =
    let a = fits w64 c.requires (lit< tt) in
    let b = fits w64 (plus c.requires (literal 1800000000)) (lit< tt) in
    let r : FitsSigned w64 c.rem_euclid.result = search rules in
    let is : c.rem_euclid.result ≡ int_rem_euclid (c.args.lon +ℤ pos 1800000000) (pos 3600000000) = simp to_z-of_z at c.rem_euclid.ensures.value in
    let size : IsWithin 1800000000 (c.rem_euclid.result -ℤ pos 1800000000) =
    record { size = omega (arith, ints, c.rem_euclid.ensures.lower_bound, c.rem_euclid.ensures.upper_bound) } in
    let f = fits w64 size (lit< tt) in
    record { value = simp to_z-of_z (ap (λ (z : ℤ). z -ℤ pos 1800000000) is); size = simp to_z-of_z size }
