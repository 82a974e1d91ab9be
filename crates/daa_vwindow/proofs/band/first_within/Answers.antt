use Rattle.std.proofs.Common.{◌≡◌, ℤ, pos, neg_ℤ, ◌-ℤ◌, ◌≤◌, arith, unsigned_abs, w64, to_z, of_z, to_z-of_z, FitsSigned, rules}
use Rattle.std.proofs.lemmas.Int.{ints}
use Rattle.daa_vwindow.proofs.band.first_within.Goals as goal

kept : (low height : ℤ) → unsigned_abs low ≤ 40000000 → unsigned_abs height ≤ 40000000
    → to_z w64 (of_z w64 (to_z w64 (of_z w64 (pos 0 -ℤ to_z w64 (of_z w64 low))) -ℤ to_z w64 (of_z w64 height))) ≡ neg_ℤ low -ℤ height
kept low height h k = omega (arith, ints)

pub returns : goal.returns
returns c =
    let e = kept c.args.low c.args.height c.requires.low.size c.requires.height.size in
    let f : FitsSigned w64 c.max.result = search rules in
    simp to_z-of_z (simp e at c.max.ensures.value)
