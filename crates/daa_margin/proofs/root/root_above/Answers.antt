use Rattle.std.proofs.Common.{◌≡◌, ◌^◌, arith, ℤ, pos, ◌*ℤ◌, ◌≤ℤ◌, lit<, FitsSigned, w64, to_z-of_z}
use Rattle.std.proofs.lemmas.Int.{ints}
use Rattle.std.specs.Int.{IsIsqrt}
use Rattle.daa_fixed.specs.Size.{IsWithin}
use Rattle.daa_fixed.proofs.Bounds.{times, plus, fits, within}
use Rattle.daa_fixed.proofs.Integers.{root_within, le_trans_ℤ}
use Rattle.daa_margin.proofs.Comparisons.{is_below, is_not_below}
use Rattle.daa_margin.proofs.Roots.{IsRootBelow, isqrt_is, root_exact, root_next}
use Rattle.daa_margin.proofs.root.root_above.Goals as goal

one : IsWithin 1 (pos 1)
one = record { size = omega arith }

small : (z r : ℤ) → IsWithin (2 ^ 48) z → IsRootBelow z r → IsWithin (2 ^ 24) r
small z r h b = within (2 ^ 24) r (omega (arith, ints, b.from))
    (root_within r (pos (2 ^ 24)) (omega (arith, ints)) (le_trans_ℤ (r *ℤ r) z (pos (2 ^ 24) *ℤ pos (2 ^ 24)) b.low (omega (arith, ints, h.size))))

pub returns-then-root-square : goal.returns-then-root-square
returns-then-root-square c =
    let f : FitsSigned w64 c.args.square = fits w64 c.requires.size (lit< tt) in
    let b = isqrt_is c.args.square c.isqrt-root.result c.requires.not_negative (simp to_z-of_z at c.isqrt-root.ensures) in
    let wr = small _ _ c.requires.size b in
    let f1 = fits w64 wr (lit< tt) in
    let f2 = fits w64 (times wr wr) (lit< tt) in
    let more = plus wr one in
    let f3 = fits w64 more (lit< tt) in
    simp to_z-of_z (record { root = root_next _ _ b (is_below _ _ (simp to_z-of_z at c.if-root-square.true)); size = record { size = omega (arith, more.size) } })

pub returns-else-root-square : goal.returns-else-root-square
returns-else-root-square c =
    let f : FitsSigned w64 c.args.square = fits w64 c.requires.size (lit< tt) in
    let b = isqrt_is c.args.square c.isqrt-root.result c.requires.not_negative (simp to_z-of_z at c.isqrt-root.ensures) in
    let wr = small _ _ c.requires.size b in
    let f1 = fits w64 wr (lit< tt) in
    let f2 = fits w64 (times wr wr) (lit< tt) in
    simp to_z-of_z (record { root = root_exact _ _ b (is_not_below _ _ (simp to_z-of_z at c.if-root-square.false)); size = record { size = omega (arith, wr.size) } })
