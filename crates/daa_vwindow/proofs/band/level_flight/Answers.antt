use Rattle.std.proofs.Common.{arith, w64, to_z-of_z, FitsSigned}
use Rattle.std.proofs.lemmas.Int.{ints}
use Rattle.daa_vwindow.proofs.Bands.{level_window, level_never, abs_within, abs_beyond}
use Rattle.daa_vwindow.proofs.band.level_flight.Goals as goal

pub returns-then-abs-high-clause-times : goal.returns-then-abs-high-clause-times
returns-then-abs-high-clause-times c =
    let f : FitsSigned w64 c.args.height = c.ranges.height in
    let b = abs_within c.args.height c.args.high c.abs.result (simp to_z-of_z at c.abs.ensures.value) (omega (arith, ints)) in
    level_window c.args.secs c.args.height c.args.high b.0 b.1 _ _ (omega (arith, ints)) (omega (arith, ints)) (omega (arith, ints)) (omega (arith, ints))

pub returns-else-abs-high-clause-times : goal.returns-else-abs-high-clause-times
returns-else-abs-high-clause-times c =
    let f : FitsSigned w64 c.args.height = c.ranges.height in
    level_never c.args.secs c.args.height c.args.high (abs_beyond c.args.height c.args.high c.abs.result (simp to_z-of_z at c.abs.ensures.value) (omega (arith, ints)))
