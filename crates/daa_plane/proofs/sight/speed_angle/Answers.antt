use Rattle.std.proofs.Common.{w64, to_z-of_z, lit<}
use Rattle.daa_fixed.proofs.Bounds.{fits, plus, times}
use Rattle.daa_plane.specs.Sight.{speed_angle}
use Rattle.daa_plane.proofs.Sizes.{literal}
use Rattle.daa_plane.proofs.sight.speed_angle.Goals as goal

pub returns-clause-value : goal.returns-clause-value
unfolding speed_angle
returns-clause-value c =
    let a = fits w64 c.requires.way.turn (lit< tt) in
    let t = fits w64 c.requires.turn (lit< tt) in
    let p = times (literal 1000) c.requires.turn in
    let f = fits w64 p (lit< tt) in
    let g = fits w64 (plus c.requires.way.turn p) (lit< tt) in
    simp to_z-of_z
