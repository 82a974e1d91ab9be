use Rattle.std.proofs.Common.{rules, ◌≡◌, ◌∙◌, sym, pos, ◌-ℤ◌, ◌+ℤ◌, true, false, FitsSigned, w64, to_z-of_z, lit<}
use Rattle.std.specs.Prelude.{int_lt}
use Rattle.daa_fixed.proofs.Bounds.{fits, plus, minus}
use Rattle.daa_plane.specs.Sines.{upper_sine, cosine_of}
use Rattle.daa_plane.proofs.Sizes.{literal}
use Rattle.daa_plane.proofs.SineLemmas.{if_yes, if_no}
use Rattle.daa_plane.proofs.sines.cosine_of.Goals as goal

pub returns-then-angle-lt0-clause-value : goal.returns-then-angle-lt0-clause-value
unfolding cosine_of
returns-then-angle-lt0-clause-value c =
    let a = fits w64 c.requires (lit< tt) in
    let f = fits w64 (plus (literal 900000000) c.requires) (lit< tt) in
    let r : FitsSigned w64 c.upper_sine.result = search rules in
    let is : c.upper_sine.result ≡ upper_sine (pos 900000000 +ℤ c.args.angle) = simp to_z-of_z at c.upper_sine.ensures.value in
    let test : int_lt c.args.angle (pos 0) ≡ true = simp to_z-of_z at c.if-angle-lt0.true in
    simp to_z-of_z (is ∙ sym (if_yes _ _ _ test))

pub returns-else-angle-lt0-clause-value : goal.returns-else-angle-lt0-clause-value
unfolding cosine_of
returns-else-angle-lt0-clause-value c =
    let a = fits w64 c.requires (lit< tt) in
    let f = fits w64 (minus (literal 900000000) c.requires) (lit< tt) in
    let r : FitsSigned w64 c.upper_sine-else-angle-lt0.result = search rules in
    let is : c.upper_sine-else-angle-lt0.result ≡ upper_sine (pos 900000000 -ℤ c.args.angle) = simp to_z-of_z at c.upper_sine-else-angle-lt0.ensures.value in
    let test : int_lt c.args.angle (pos 0) ≡ false = simp to_z-of_z at c.if-angle-lt0.false in
    simp to_z-of_z (is ∙ sym (if_no _ _ _ test))
