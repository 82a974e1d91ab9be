use Rattle.std.proofs.Common.{◌≡◌, ℕ, ℤ, pos, ◌-ℤ◌, ◌≤◌, arith, lit<, unsigned_abs, w64, to_z, of_z, to_z-of_z, FitsSigned, rules}
use Rattle.std.proofs.lemmas.Int.{ints}
use Rattle.daa_fixed.proofs.Bounds.{fits}
use Rattle.daa_vwindow.proofs.Bands.{travel}
use Rattle.daa_vwindow.proofs.band.last_within.Goals as goal

gap_kept : (high height : ℤ) → unsigned_abs high ≤ 40000000 → unsigned_abs height ≤ 40000000
    → to_z w64 (of_z w64 (to_z w64 (of_z w64 high) -ℤ to_z w64 (of_z w64 height))) ≡ high -ℤ height
gap_kept high height h k = omega (arith, ints)

secs_kept : (secs : ℕ) → secs ≤ 180 → to_z w64 secs ≡ pos secs
secs_kept secs h = omega (arith, ints)

pub overflow_mul-secs : goal.overflow_mul-secs
overflow_mul-secs c =
    let s = secs_kept c.args.secs c.requires.secs in
    let a : FitsSigned w64 c.args.speed = c.ranges.speed in
    simp (s, to_z-of_z) (fits w64 (travel c.args.secs c.args.speed c.requires.secs c.requires.rises c.requires.speed) (lit< tt))

pub returns : goal.returns
returns c =
    let g = gap_kept c.args.high c.args.height c.requires.high.size c.requires.height.size in
    let s = secs_kept c.args.secs c.requires.secs in
    let a : FitsSigned w64 c.args.speed = c.ranges.speed in
    let t = fits w64 (travel c.args.secs c.args.speed c.requires.secs c.requires.rises c.requires.speed) (lit< tt) in
    let f : FitsSigned w64 c.min.result = search rules in
    simp to_z-of_z (simp (g, s, to_z-of_z) at c.min.ensures.value)
