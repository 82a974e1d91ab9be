use Rattle.std.proofs.Common.{w32, w64, to_z-of_z, arith, lit<}
use Rattle.std.proofs.lemmas.Int.{ints}
use Rattle.daa_fixed.proofs.Bounds.{fits, within}
use Rattle.daa_plane.proofs.courses.course_of.Goals as goal

pub returns-clause-course : goal.returns-clause-course
returns-clause-course c =
    let track = c.track_of-track.ensures.range in
    let t = within 359 c.track_of-track.result.0 (omega (arith, ints, track.least)) track.most in
    let speed = c.speed_of.ensures.range in
    let g = within 10000 c.speed_of.result (omega (arith, ints, speed.least)) speed.most in
    let f1 = fits w64 t (lit< tt) in
    let f2 = fits w32 t (lit< tt) in
    let f3 = fits w64 g (lit< tt) in
    let f4 = fits w32 g (lit< tt) in
    let f5 = fits w64 c.track_of-track.ensures.turn (lit< tt) in
    let f6 = fits w32 c.track_of-track.ensures.turn (lit< tt) in
    record { track = simp to_z-of_z c.track_of-track.ensures.track; speed = simp to_z-of_z c.speed_of.ensures.value }
