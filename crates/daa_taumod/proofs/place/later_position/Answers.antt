use Rattle.std.proofs.Common.{◌≡◌, ◌≤◌, ℕ, pos, lit<, rules, w64, to_z, to_z-of_z, refl, arith}
use Rattle.std.proofs.lemmas.Int.{ints}
use Rattle.daa_fixed.proofs.Bounds.{times, plus, fits}
use Rattle.daa_fixed.proofs.LegSizes.{natural}
use Rattle.daa_fixed.proofs.PointSizes as size
use Rattle.daa_fixed.proofs.PointSizes.{IsPointInRange}
use Rattle.daa_taumod.proofs.place.later_position.Goals as goal

secs_kept : (secs : ℕ) → secs ≤ 120 → to_z w64 secs ≡ pos secs
secs_kept secs h = omega (arith, ints)

pub overflow_add-result : goal.overflow_add-result
overflow_add-result c =
    let t : IsPointInRange c.args.point.now = search rules in
    let e = secs_kept c.args.secs c.requires.secs in
    let wait = times (natural 120 c.args.secs c.requires.secs) (size.d t) in
    let f1 = fits w64 (size.d t) (lit< tt) in
    let f2 = fits w64 (size.n t) (lit< tt) in
    let f3 = fits w64 wait (lit< tt) in
    simp (e, to_z-of_z) (fits w64 (plus (size.n t) wait) (lit< tt))

pub overflow_mul-result-3 : goal.overflow_mul-result-3
overflow_mul-result-3 c =
    let t : IsPointInRange c.args.point.now = search rules in
    let e = secs_kept c.args.secs c.requires.secs in
    let wait = times (natural 120 c.args.secs c.requires.secs) (size.d t) in
    let f1 = fits w64 (size.d t) (lit< tt) in
    let f2 = fits w64 (size.n t) (lit< tt) in
    let f3 = fits w64 wait (lit< tt) in
    let f4 = fits w64 (plus (size.n t) wait) (lit< tt) in
    let f5 = fits w64 c.requires.speed (lit< tt) in
    simp (e, to_z-of_z) (fits w64 (times (plus (size.n t) wait) c.requires.speed) (lit< tt))

pub overflow_add-result-2 : goal.overflow_add-result-2
overflow_add-result-2 c =
    let t : IsPointInRange c.args.point.now = search rules in
    let e = secs_kept c.args.secs c.requires.secs in
    let wait = times (natural 120 c.args.secs c.requires.secs) (size.d t) in
    let f1 = fits w64 (size.d t) (lit< tt) in
    let f2 = fits w64 (size.n t) (lit< tt) in
    let way = times (plus (size.n t) wait) c.requires.speed in
    let start = times (size.d t) c.requires.begin in
    let f3 = fits w64 wait (lit< tt) in
    let f4 = fits w64 (plus (size.n t) wait) (lit< tt) in
    let f5 = fits w64 c.requires.speed (lit< tt) in
    let f6 = fits w64 c.requires.begin (lit< tt) in
    let f7 = fits w64 way (lit< tt) in
    let f8 = fits w64 start (lit< tt) in
    simp (e, to_z-of_z) (fits w64 (plus start way) (lit< tt))

pub returns : goal.returns
returns c =
    let t : IsPointInRange c.args.point.now = search rules in
    let e = secs_kept c.args.secs c.requires.secs in
    let wait = times (natural 120 c.args.secs c.requires.secs) (size.d t) in
    let way = times (plus (size.n t) wait) c.requires.speed in
    let start = times (size.d t) c.requires.begin in
    let sum = plus start way in
    let f1 = fits w64 (size.d t) (lit< tt) in
    let f2 = fits w64 (size.n t) (lit< tt) in
    let f3 = fits w64 c.requires.begin (lit< tt) in
    let f4 = fits w64 c.requires.speed (lit< tt) in
    let f5 = fits w64 wait (lit< tt) in
    let f6 = fits w64 (plus (size.n t) wait) (lit< tt) in
    let f7 = fits w64 way (lit< tt) in
    let f8 = fits w64 start (lit< tt) in
    let f9 = fits w64 sum (lit< tt) in
    simp (e, to_z-of_z) (record { value = refl; size = record { size = omega (arith, sum.size) } })
