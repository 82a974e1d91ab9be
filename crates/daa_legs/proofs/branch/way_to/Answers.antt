use Rattle.std.proofs.Common.{FitsSigned, w32, w64, to_z-of_z, lit<, ◌-ℤ◌}
use Rattle.daa_fixed.proofs.Bounds.{fits, minus}
use Rattle.daa_legs.proofs.branch.way_to.Goals as goal

pub returns-then-now-target-clause-up_legs : goal.returns-then-now-target-clause-up_legs
returns-then-now-target-clause-up_legs c =
    let f1 : FitsSigned w64 c.args.now = c.ranges.now in
    let f2 : FitsSigned w64 c.args.target = c.ranges.target in
    let f3 : FitsSigned w32 c.args.rate = c.ranges.rate in
    let f4 : FitsSigned w64 (c.args.target -ℤ c.args.now) = fits w64 (minus c.requires.target c.requires.now) (lit< tt) in
    λ _. simp to_z-of_z at c.whole_legs.ensures.legs

pub returns-else-now-target-clause-down_legs : goal.returns-else-now-target-clause-down_legs
returns-else-now-target-clause-down_legs c =
    let f1 : FitsSigned w64 c.args.now = c.ranges.now in
    let f2 : FitsSigned w64 c.args.target = c.ranges.target in
    let f3 : FitsSigned w32 c.args.rate = c.ranges.rate in
    let f4 : FitsSigned w64 (c.args.now -ℤ c.args.target) = fits w64 (minus c.requires.now c.requires.target) (lit< tt) in
    λ _. simp to_z-of_z at c.whole_legs-else-now-target.ensures.legs
