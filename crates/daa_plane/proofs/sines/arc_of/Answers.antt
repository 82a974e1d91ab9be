use Rattle.std.proofs.Common.{rules, ◌≡◌, ◌∙◌, ap, sym, subst, ℤ, pos, ◌-ℤ◌, ◌*ℤ◌, FitsSigned, w64, to_z, of_z, to_z-of_z, arith, lit<}
use Rattle.std.proofs.lemmas.Int.{ints}
use Rattle.daa_fixed.specs.Size.{IsWithin}
use Rattle.daa_fixed.proofs.Bounds.{fits, times, within, minus}
use Rattle.daa_plane.specs.Sines.{degree_of, arc_of}
use Rattle.daa_plane.specs.Rounding.{part}
use Rattle.daa_plane.proofs.Sizes.{literal}
use Rattle.daa_plane.proofs.SineLemmas.{arc_of-within}
use Rattle.daa_plane.proofs.sines.arc_of.Goals as goal

pub part-requires-clause-a : goal.part-requires-clause-a
part-requires-clause-a c =
    let a = within 900000000 c.args.angle (omega (arith, ints, c.requires.least)) c.requires.most in
    let d : FitsSigned w64 c.degree_of.result = search rules in
    let s : IsWithin 90 c.degree_of.result = within 90 c.degree_of.result (omega (arith, ints, c.degree_of.ensures.size.least)) (omega (arith, ints, c.degree_of.ensures.size.most)) in
    let p = times (literal 10000000) s in
    let fa = fits w64 a (lit< tt) in
    let fp = fits w64 p (lit< tt) in
    let fm = fits w64 (minus a p) (lit< tt) in
    simp to_z-of_z (record { size = omega (arith, ints, c.requires.least, c.requires.most, c.degree_of.ensures.size.least, c.degree_of.ensures.size.most) })

pub returns : goal.returns
unfolding arc_of
returns c =
    let a = within 900000000 c.args.angle (omega (arith, ints, c.requires.least)) c.requires.most in
    let d : FitsSigned w64 c.degree_of.result = search rules in
    let s : IsWithin 90 c.degree_of.result = within 90 c.degree_of.result (omega (arith, ints, c.degree_of.ensures.size.least)) (omega (arith, ints, c.degree_of.ensures.size.most)) in
    let p = times (literal 10000000) s in
    let fa = fits w64 a (lit< tt) in
    let fp = fits w64 p (lit< tt) in
    let fm = fits w64 (minus a p) (lit< tt) in
    let r : FitsSigned w64 c.part.result = search rules in
    let e : c.degree_of.result ≡ degree_of c.args.angle = simp to_z-of_z at c.degree_of.ensures.value in
    let from : c.part.result ≡ part (c.args.angle -ℤ pos 10000000 *ℤ c.degree_of.result) (pos 174533) = simp to_z-of_z at c.part.ensures in
    let is : to_z w64 (of_z w64 c.part.result) ≡ arc_of c.args.angle =
    simp to_z-of_z (from ∙ ap (λ (z : ℤ). part (c.args.angle -ℤ pos 10000000 *ℤ z) (pos 174533)) e) in
    record { value = is; size = subst (λ (z : ℤ). IsWithin 100000 z) (sym is) (arc_of-within c.args.angle c.requires) }
