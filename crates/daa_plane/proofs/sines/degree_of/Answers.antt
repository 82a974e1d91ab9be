use Rattle.std.proofs.Common.{rules, ◌≡◌, sym, subst, ℤ, pos, FitsSigned, w64, to_z, of_z, to_z-of_z}
use Rattle.daa_fixed.specs.Size.{IsFrom}
use Rattle.daa_plane.specs.Sines.{degree_of}
use Rattle.daa_plane.proofs.SineLemmas.{degree_of-from}
use Rattle.daa_plane.proofs.sines.degree_of.Goals as goal

pub returns : goal.returns
unfolding degree_of
returns c =
    let a : FitsSigned w64 c.args.angle = search rules in
    let r : FitsSigned w64 c.nearest.result = search rules in
    let is : to_z w64 (of_z w64 c.nearest.result) ≡ degree_of c.args.angle = simp to_z-of_z (simp to_z-of_z at c.nearest.ensures) in
    record { value = is; size = subst (λ (z : ℤ). IsFrom (pos 0) (pos 90) z) (sym is) (degree_of-from c.args.angle c.requires) }
