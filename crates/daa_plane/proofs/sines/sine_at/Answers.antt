use Rattle.std.proofs.Common.{rules, ◌≡◌, ap, ◌∙◌, sym, subst, ℤ, pos, FitsSigned, w64, to_z, of_z, to_z-of_z, unsigned_abs}
use Rattle.std.specs.Prelude.{slice_index}
use Rattle.daa_fixed.specs.Size.{IsFrom}
use Rattle.daa_plane.specs.Sines.{sines, sine_at}
use Rattle.daa_plane.proofs.SineLemmas.{sine_at-from}
use Rattle.daa_plane.proofs.sines.sine_at.Goals as goal

pub returns : goal.returns
unfolding sine_at sines
returns c =
    let r : FitsSigned w64 c.args.degree = search rules in
    let f : FitsSigned w64 c.from.result = search rules in
    let h : c.from.result ≡ pos (slice_index sines (unsigned_abs (to_z w64 (of_z w64 c.args.degree)))) = c.from.ensures in
    let is : to_z w64 (of_z w64 c.from.result) ≡ sine_at c.args.degree = to_z-of_z f ∙ h ∙ ap (λ (z : ℤ). pos (slice_index sines (unsigned_abs z))) (to_z-of_z r) in
    record { value = is; size = subst (λ (z : ℤ). IsFrom (pos 0) (pos 10000000) z) (sym is) (sine_at-from c.args.degree) }
