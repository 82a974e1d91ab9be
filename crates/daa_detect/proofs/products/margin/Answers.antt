use Rattle.std.proofs.Common.{arith, lit<, w64, to_z-of_z}
use mir.Syntax.{w128}
use Rattle.daa_fixed.proofs.Bounds.{times, minus, fits, nat_kept}
use Rattle.daa_fixed.proofs.LegSizes.{natural}
use Rattle.daa_detect.proofs.products.margin.Goals as goal

pub overflow_sub-result : goal.overflow_sub-result
overflow_sub-result c =
    let e = nat_kept c.args.dthr (omega (arith, c.requires.dthr)) in
    let wd = natural 360000 c.args.dthr c.requires.dthr in
    let f1 = fits w64 (times wd wd) (lit< tt) in
    let f2 = fits w128 (times wd wd) (lit< tt) in
    let f3 = fits w128 c.requires.speed (lit< tt) in
    let f4 = fits w128 c.requires.miss (lit< tt) in
    let f5 = fits w128 (times (times wd wd) c.requires.speed) (lit< tt) in
    let f6 = fits w128 (times c.requires.miss c.requires.miss) (lit< tt) in
    let f7 = fits w64 c.requires.speed (lit< tt) in
    let f8 = fits w64 c.requires.miss (lit< tt) in
    simp (e, to_z-of_z) (fits w128 (minus (times (times wd wd) c.requires.speed) (times c.requires.miss c.requires.miss)) (lit< tt))

pub returns-clause-value : goal.returns-clause-value
returns-clause-value c =
    let e = nat_kept c.args.dthr (omega (arith, c.requires.dthr)) in
    let wd = natural 360000 c.args.dthr c.requires.dthr in
    let f1 = fits w64 (times wd wd) (lit< tt) in
    let f2 = fits w128 (times wd wd) (lit< tt) in
    let f3 = fits w128 c.requires.speed (lit< tt) in
    let f4 = fits w128 c.requires.miss (lit< tt) in
    let f5 = fits w128 (times (times wd wd) c.requires.speed) (lit< tt) in
    let f6 = fits w128 (times c.requires.miss c.requires.miss) (lit< tt) in
    let f7 = fits w64 c.requires.speed (lit< tt) in
    let f8 = fits w64 c.requires.miss (lit< tt) in
    let f9 = fits w128 (minus (times (times wd wd) c.requires.speed) (times c.requires.miss c.requires.miss)) (lit< tt) in
    simp (e, to_z-of_z)

pub returns-clause-size : goal.returns-clause-size
returns-clause-size c =
    let e = nat_kept c.args.dthr (omega (arith, c.requires.dthr)) in
    let wd = natural 360000 c.args.dthr c.requires.dthr in
    let f1 = fits w64 (times wd wd) (lit< tt) in
    let f2 = fits w128 (times wd wd) (lit< tt) in
    let f3 = fits w128 c.requires.speed (lit< tt) in
    let f4 = fits w128 c.requires.miss (lit< tt) in
    let f5 = fits w128 (times (times wd wd) c.requires.speed) (lit< tt) in
    let f6 = fits w128 (times c.requires.miss c.requires.miss) (lit< tt) in
    let f7 = fits w64 c.requires.speed (lit< tt) in
    let f8 = fits w64 c.requires.miss (lit< tt) in
    let w = minus (times (times wd wd) c.requires.speed) (times c.requires.miss c.requires.miss) in
    let f9 = fits w128 w (lit< tt) in
    simp (e, to_z-of_z) (record { size = omega (arith, w.size) })
