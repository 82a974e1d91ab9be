use Rattle.std.proofs.Common.{rules, ◌≡◌, ◌∙◌, sym, pos, ◌-ℤ◌, true, false, FitsSigned, w64, to_z-of_z, arith}
use Rattle.std.specs.Prelude.{int_le}
use Rattle.std.proofs.lemmas.Int.{ints}
use Rattle.daa_plane.specs.Sines.{sine_at, direction_of}
use Rattle.daa_plane.proofs.SineLemmas.{if_yes, if_no, less-fits}
use Rattle.daa_plane.proofs.sines.direction_of.Goals as goal

pub returns-then-degree-le90-clause-value : goal.returns-then-degree-le90-clause-value
unfolding direction_of
returns-then-degree-le90-clause-value c =
    let d : FitsSigned w64 c.args.degree = search rules in
    let g : FitsSigned w64 (pos 90 -ℤ c.args.degree) = omega (arith, ints, c.requires.least, c.requires.most) in
    let r : FitsSigned w64 c.sine_at.result = search rules in
    let s : FitsSigned w64 c.sine_at-then-degree-le90.result = search rules in
    let e : c.sine_at.result ≡ sine_at c.args.degree = simp to_z-of_z at c.sine_at.ensures.value in
    let n : c.sine_at-then-degree-le90.result ≡ sine_at (pos 90 -ℤ c.args.degree) = simp to_z-of_z at c.sine_at-then-degree-le90.ensures.value in
    let test : int_le c.args.degree (pos 90) ≡ true = simp to_z-of_z at c.if-degree-le90.true in
    simp to_z-of_z ((λ i. record { east = e i; north = n i }) ∙ sym (if_yes _ _ _ test))

pub returns-then-degree-le180-clause-value : goal.returns-then-degree-le180-clause-value
unfolding direction_of
returns-then-degree-le180-clause-value c =
    let d : FitsSigned w64 c.args.degree = search rules in
    let g : FitsSigned w64 (pos 180 -ℤ c.args.degree) = omega (arith, ints, c.requires.least, c.requires.most) in
    let h : FitsSigned w64 (c.args.degree -ℤ pos 90) = omega (arith, ints, c.requires.least, c.requires.most) in
    let r : FitsSigned w64 c.sine_at-then-degree-le180.result = search rules in
    let s : FitsSigned w64 c.sine_at-then-degree-le180-2.result = search rules in
    let n = less-fits c.sine_at-then-degree-le180-2.result c.sine_at-then-degree-le180-2.ensures.size in
    let east : c.sine_at-then-degree-le180.result ≡ sine_at (pos 180 -ℤ c.args.degree) = simp to_z-of_z at c.sine_at-then-degree-le180.ensures.value in
    let north : c.sine_at-then-degree-le180-2.result ≡ sine_at (c.args.degree -ℤ pos 90) = simp to_z-of_z at c.sine_at-then-degree-le180-2.ensures.value in
    let first : int_le c.args.degree (pos 90) ≡ false = simp to_z-of_z at c.if-degree-le90.false in
    let test : int_le c.args.degree (pos 180) ≡ true = simp to_z-of_z at c.if-degree-le180.true in
    simp to_z-of_z ((λ i. record { east = east i; north = pos 0 -ℤ north i }) ∙ sym (if_no _ _ _ first ∙ if_yes _ _ _ test))

pub returns-then-degree-le270-clause-value : goal.returns-then-degree-le270-clause-value
unfolding direction_of
returns-then-degree-le270-clause-value c =
    let d : FitsSigned w64 c.args.degree = search rules in
    let g : FitsSigned w64 (c.args.degree -ℤ pos 180) = omega (arith, ints, c.requires.least, c.requires.most) in
    let h : FitsSigned w64 (pos 270 -ℤ c.args.degree) = omega (arith, ints, c.requires.least, c.requires.most) in
    let r : FitsSigned w64 c.sine_at-then-degree-le270.result = search rules in
    let s : FitsSigned w64 c.sine_at-then-degree-le270-2.result = search rules in
    let m = less-fits c.sine_at-then-degree-le270.result c.sine_at-then-degree-le270.ensures.size in
    let n = less-fits c.sine_at-then-degree-le270-2.result c.sine_at-then-degree-le270-2.ensures.size in
    let east : c.sine_at-then-degree-le270.result ≡ sine_at (c.args.degree -ℤ pos 180) = simp to_z-of_z at c.sine_at-then-degree-le270.ensures.value in
    let north : c.sine_at-then-degree-le270-2.result ≡ sine_at (pos 270 -ℤ c.args.degree) = simp to_z-of_z at c.sine_at-then-degree-le270-2.ensures.value in
    let first : int_le c.args.degree (pos 90) ≡ false = simp to_z-of_z at c.if-degree-le90.false in
    let second : int_le c.args.degree (pos 180) ≡ false = simp to_z-of_z at c.if-degree-le180.false in
    let test : int_le c.args.degree (pos 270) ≡ true = simp to_z-of_z at c.if-degree-le270.true in
    simp to_z-of_z ((λ i. record { east = pos 0 -ℤ east i; north = pos 0 -ℤ north i }) ∙ sym (if_no _ _ _ first ∙ if_no _ _ _ second ∙ if_yes _ _ _ test))

pub returns-else-degree-le270-clause-value : goal.returns-else-degree-le270-clause-value
unfolding direction_of
returns-else-degree-le270-clause-value c =
    let d : FitsSigned w64 c.args.degree = search rules in
    let g : FitsSigned w64 (pos 360 -ℤ c.args.degree) = omega (arith, ints, c.requires.least, c.requires.most) in
    let h : FitsSigned w64 (c.args.degree -ℤ pos 270) = omega (arith, ints, c.requires.least, c.requires.most) in
    let r : FitsSigned w64 c.sine_at-else-degree-le270.result = search rules in
    let s : FitsSigned w64 c.sine_at-else-degree-le270-2.result = search rules in
    let m = less-fits c.sine_at-else-degree-le270.result c.sine_at-else-degree-le270.ensures.size in
    let east : c.sine_at-else-degree-le270.result ≡ sine_at (pos 360 -ℤ c.args.degree) = simp to_z-of_z at c.sine_at-else-degree-le270.ensures.value in
    let north : c.sine_at-else-degree-le270-2.result ≡ sine_at (c.args.degree -ℤ pos 270) = simp to_z-of_z at c.sine_at-else-degree-le270-2.ensures.value in
    let first : int_le c.args.degree (pos 90) ≡ false = simp to_z-of_z at c.if-degree-le90.false in
    let second : int_le c.args.degree (pos 180) ≡ false = simp to_z-of_z at c.if-degree-le180.false in
    let third : int_le c.args.degree (pos 270) ≡ false = simp to_z-of_z at c.if-degree-le270.false in
    simp to_z-of_z ((λ i. record { east = pos 0 -ℤ east i; north = north i }) ∙ sym (if_no _ _ _ first ∙ if_no _ _ _ second ∙ if_no _ _ _ third))
