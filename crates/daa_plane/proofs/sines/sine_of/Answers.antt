use Rattle.std.proofs.Common.{rules, ◌≡◌, ◌∙◌, ap, sym, ℤ, pos, ◌-ℤ◌, true, false, FitsSigned, w64, to_z-of_z, lit<}
use Rattle.std.specs.Prelude.{int_lt}
use Rattle.daa_fixed.specs.Size.{IsWithin}
use Rattle.daa_fixed.proofs.Bounds.{fits, zero_less-within}
use Rattle.daa_plane.specs.Sines.{upper_sine, sine_of}
use Rattle.daa_plane.proofs.SineLemmas.{if_yes, if_no}
use Rattle.daa_plane.proofs.sines.sine_of.Goals as goal

pub returns-then-angle-lt0-clause-value : goal.returns-then-angle-lt0-clause-value
unfolding sine_of
returns-then-angle-lt0-clause-value c =
    let a = fits w64 c.requires (lit< tt) in
    let f = fits w64 (zero_less-within _ c.requires) (lit< tt) in
    let r : FitsSigned w64 c.upper_sine.result = search rules in
    let is : c.upper_sine.result ≡ upper_sine (pos 0 -ℤ c.args.angle) = simp to_z-of_z at c.upper_sine.ensures.value in
    let s : IsWithin 10200000 c.upper_sine.result = c.upper_sine.ensures.size in
    let g : FitsSigned w64 (pos 0 -ℤ c.upper_sine.result) = fits w64 (zero_less-within _ s) (lit< tt) in
    let test : int_lt c.args.angle (pos 0) ≡ true = simp to_z-of_z at c.if-angle-lt0.true in
    simp to_z-of_z (ap (λ (z : ℤ). pos 0 -ℤ z) is ∙ sym (if_yes _ _ _ test))

pub returns-else-angle-lt0-clause-value : goal.returns-else-angle-lt0-clause-value
unfolding sine_of
returns-else-angle-lt0-clause-value c =
    let a = fits w64 c.requires (lit< tt) in
    let r : FitsSigned w64 c.upper_sine-else-angle-lt0.result = search rules in
    let is : c.upper_sine-else-angle-lt0.result ≡ upper_sine c.args.angle = simp to_z-of_z at c.upper_sine-else-angle-lt0.ensures.value in
    let test : int_lt c.args.angle (pos 0) ≡ false = simp to_z-of_z at c.if-angle-lt0.false in
    simp to_z-of_z (is ∙ sym (if_no _ _ _ test))
