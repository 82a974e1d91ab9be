use Rattle.std.proofs.Common.{rules, ◌≡◌, ap, ◌∙◌, ℤ, pos, FitsSigned, w32, to_z, of_z, to_z-of_z, unsigned_abs}
use Rattle.std.specs.Prelude.{slice_index}
use Rattle.daa_heading.specs.Heading.{sines, sine_at}
use Rattle.daa_heading.proofs.heading.table_sine.Goals as goal

pub returns : goal.returns
unfolding sine_at sines
returns c =
    let r : FitsSigned w32 c.args.deg = search rules in
    let f : FitsSigned w32 c.from.result = search rules in
    let h : c.from.result ≡ pos (slice_index sines (unsigned_abs (to_z w32 (of_z w32 c.args.deg)))) = c.from.ensures in
    to_z-of_z f ∙ h ∙ ap (λ (z : ℤ). pos (slice_index sines (unsigned_abs z))) (to_z-of_z r)
