use Rattle.std.proofs.Common.{◌≡◌, ◌≤◌, ℕ, pos, arith, lit<, w64, to_z, to_z-of_z, FitsSigned}
use Rattle.std.proofs.lemmas.Int.{ints}
use Rattle.daa_fixed.proofs.Bounds.{times, plus, fits}
use Rattle.daa_fixed.proofs.LegSizes.{natural}
use Rattle.daa_detect.proofs.far.stays_beyond.Goals as goal

secs_kept : (secs : ℕ) → secs ≤ 300 → to_z w64 secs ≡ pos secs
secs_kept secs h = omega (arith, ints)

pub returns : goal.returns
returns c =
    let s = secs_kept c.args.secs c.requires.secs in
    let b : FitsSigned w64 c.args.begin = c.ranges.begin in
    let v : FitsSigned w64 c.args.speed = c.ranges.speed in
    let way = times (natural 300 c.args.secs c.requires.secs) c.requires.speed in
    let w = fits w64 way (lit< tt) in
    let e = fits w64 (plus c.requires.begin way) (lit< tt) in
    simp (s, to_z-of_z) at c.is_beyond.ensures
