use Rattle.std.proofs.Common.{rules, w64, to_z-of_z, FitsSigned}
use Rattle.daa_detect.proofs.Choices.{second}
use Rattle.daa_detect.proofs.far.is_far.Goals as goal

pub returns-else-stays_beyond : goal.returns-else-stays_beyond
returns-else-stays_beyond c =
    let f1 : FitsSigned w64 c.args.leg.now.place.flat.east = search rules in
    let f2 : FitsSigned w64 c.args.leg.now.velocity.flat.east = search rules in
    let f3 : FitsSigned w64 c.args.leg.now.place.flat.north = search rules in
    let f4 : FitsSigned w64 c.args.leg.now.velocity.flat.north = search rules in
    second c.stays_beyond.result c.stays_beyond-else-stays_beyond.result (simp to_z-of_z at c.stays_beyond.ensures) (simp to_z-of_z at c.stays_beyond-else-stays_beyond.ensures) c.if-stays_beyond.false
