use Rattle.std.proofs.Common.{rules, ◌≡◌, ◌∙◌, FitsSigned, w32, to_z-of_z, pos, ◌-ℤ◌, arith}
use Rattle.std.proofs.lemmas.Int.{ints}
use Rattle.daa_heading.specs.Heading.{sine_at}
use Rattle.daa_heading.proofs.Quarters.{sine_1, sine_2, sine_3, sine_4, cosine_1, cosine_2, cosine_3, cosine_4, yes_le, no_le}
use Rattle.daa_heading.proofs.heading.unit.Goals as goal

pub returns-then-deg-le90-clause-sine : goal.returns-then-deg-le90-clause-sine
returns-then-deg-le90-clause-sine c =
    let d : FitsSigned w32 c.args.deg = search rules in
    let f : FitsSigned w32 c.table_sine.result = search rules in
    let e : c.table_sine.result ≡ sine_at c.args.deg = simp to_z-of_z at c.table_sine.ensures in
    simp to_z-of_z (e ∙ sine_1 c.args.deg (yes_le c.args.deg (pos 90) (simp to_z-of_z at c.if-deg-le90.true)))

pub returns-then-deg-le90-clause-cosine : goal.returns-then-deg-le90-clause-cosine
returns-then-deg-le90-clause-cosine c =
    let d : FitsSigned w32 c.args.deg = search rules in
    let g : FitsSigned w32 (pos 90 -ℤ c.args.deg) = omega (arith, ints) in
    let f : FitsSigned w32 c.table_sine-then-deg-le90.result = search rules in
    let e : c.table_sine-then-deg-le90.result ≡ sine_at (pos 90 -ℤ c.args.deg) = simp to_z-of_z at c.table_sine-then-deg-le90.ensures in
    simp to_z-of_z (e ∙ cosine_1 c.args.deg c.requires.least (yes_le c.args.deg (pos 90) (simp to_z-of_z at c.if-deg-le90.true)))

pub returns-then-deg-le180-clause-sine : goal.returns-then-deg-le180-clause-sine
returns-then-deg-le180-clause-sine c =
    let d : FitsSigned w32 c.args.deg = search rules in
    let g : FitsSigned w32 (pos 180 -ℤ c.args.deg) = omega (arith, ints) in
    let f : FitsSigned w32 c.table_sine-then-deg-le180.result = search rules in
    let e : c.table_sine-then-deg-le180.result ≡ sine_at (pos 180 -ℤ c.args.deg) = simp to_z-of_z at c.table_sine-then-deg-le180.ensures in
    simp to_z-of_z (e ∙ sine_2 c.args.deg (no_le c.args.deg (pos 90) (simp to_z-of_z at c.if-deg-le90.false)) (yes_le c.args.deg (pos 180) (simp to_z-of_z at c.if-deg-le180.true)))

pub returns-then-deg-le180-clause-cosine : goal.returns-then-deg-le180-clause-cosine
returns-then-deg-le180-clause-cosine c =
    let d : FitsSigned w32 c.args.deg = search rules in
    let g : FitsSigned w32 (c.args.deg -ℤ pos 90) = omega (arith, ints) in
    let f : FitsSigned w32 c.lower_sine.result = search rules in
    let e : c.lower_sine.result ≡ pos 0 -ℤ sine_at (c.args.deg -ℤ pos 90) = simp to_z-of_z at c.lower_sine.ensures in
    simp to_z-of_z (e ∙ cosine_2 c.args.deg (no_le c.args.deg (pos 90) (simp to_z-of_z at c.if-deg-le90.false)) (yes_le c.args.deg (pos 180) (simp to_z-of_z at c.if-deg-le180.true)))

pub returns-then-deg-le270-clause-sine : goal.returns-then-deg-le270-clause-sine
returns-then-deg-le270-clause-sine c =
    let d : FitsSigned w32 c.args.deg = search rules in
    let g : FitsSigned w32 (c.args.deg -ℤ pos 180) = omega (arith, ints) in
    let f : FitsSigned w32 c.lower_sine-then-deg-le270.result = search rules in
    let e : c.lower_sine-then-deg-le270.result ≡ pos 0 -ℤ sine_at (c.args.deg -ℤ pos 180) = simp to_z-of_z at c.lower_sine-then-deg-le270.ensures in
    simp to_z-of_z (e ∙ sine_3 c.args.deg (no_le c.args.deg (pos 180) (simp to_z-of_z at c.if-deg-le180.false)) (yes_le c.args.deg (pos 270) (simp to_z-of_z at c.if-deg-le270.true)))

pub returns-then-deg-le270-clause-cosine : goal.returns-then-deg-le270-clause-cosine
returns-then-deg-le270-clause-cosine c =
    let d : FitsSigned w32 c.args.deg = search rules in
    let g : FitsSigned w32 (pos 270 -ℤ c.args.deg) = omega (arith, ints) in
    let f : FitsSigned w32 c.lower_sine-then-deg-le270-2.result = search rules in
    let e : c.lower_sine-then-deg-le270-2.result ≡ pos 0 -ℤ sine_at (pos 270 -ℤ c.args.deg) = simp to_z-of_z at c.lower_sine-then-deg-le270-2.ensures in
    simp to_z-of_z (e ∙ cosine_3 c.args.deg (no_le c.args.deg (pos 180) (simp to_z-of_z at c.if-deg-le180.false)) (yes_le c.args.deg (pos 270) (simp to_z-of_z at c.if-deg-le270.true)))

pub returns-else-deg-le270-clause-sine : goal.returns-else-deg-le270-clause-sine
returns-else-deg-le270-clause-sine c =
    let d : FitsSigned w32 c.args.deg = search rules in
    let g : FitsSigned w32 (pos 360 -ℤ c.args.deg) = omega (arith, ints) in
    let f : FitsSigned w32 c.lower_sine-else-deg-le270.result = search rules in
    let e : c.lower_sine-else-deg-le270.result ≡ pos 0 -ℤ sine_at (pos 360 -ℤ c.args.deg) = simp to_z-of_z at c.lower_sine-else-deg-le270.ensures in
    simp to_z-of_z (e ∙ sine_4 c.args.deg (no_le c.args.deg (pos 270) (simp to_z-of_z at c.if-deg-le270.false)))

pub returns-else-deg-le270-clause-cosine : goal.returns-else-deg-le270-clause-cosine
returns-else-deg-le270-clause-cosine c =
    let d : FitsSigned w32 c.args.deg = search rules in
    let g : FitsSigned w32 (c.args.deg -ℤ pos 270) = omega (arith, ints) in
    let f : FitsSigned w32 c.table_sine-else-deg-le270.result = search rules in
    let e : c.table_sine-else-deg-le270.result ≡ sine_at (c.args.deg -ℤ pos 270) = simp to_z-of_z at c.table_sine-else-deg-le270.ensures in
    simp to_z-of_z (e ∙ cosine_4 c.args.deg (no_le c.args.deg (pos 270) (simp to_z-of_z at c.if-deg-le270.false)) (omega (arith, ints, c.requires.most)))
