use Rattle.std.proofs.Common.{rules, ◌≡◌, ◌-ℤ◌, ◌*ℤ◌, FitsSigned, w32, w64, to_z-of_z, lit<}
use Rattle.daa_fixed.proofs.Bounds.{fits, as_within, minus, times}
use Rattle.daa_plane.specs.Courses.{across}
use Rattle.daa_plane.proofs.PlaceLemmas.{place_parts}
use Rattle.daa_plane.proofs.CourseLemmas.{across-within}
use Rattle.daa_plane.proofs.courses.across.Goals as goal

pub overflow_mul-result : goal.overflow_mul-result
overflow_mul-result c =
    let sized = place_parts c.args.own.now c.requires.own in
    let x : FitsSigned w32 c.args.own.now.vx = search rules in
    let ex : c.from.result ≡ c.args.own.now.vx = simp to_z-of_z at c.from.ensures in
    let sx = as_within ex sized.vx in
    let fx = fits w64 sx (lit< tt) in
    let fe = fits w64 c.requires.direction.north (lit< tt) in
    simp to_z-of_z (fits w64 (times sx c.requires.direction.north) (lit< tt))

pub overflow_mul-result-2 : goal.overflow_mul-result-2
overflow_mul-result-2 c =
    let sized = place_parts c.args.own.now c.requires.own in
    let y : FitsSigned w32 c.args.own.now.vy = search rules in
    let ey : c.from-2.result ≡ c.args.own.now.vy = simp to_z-of_z at c.from-2.ensures in
    let sy = as_within ey sized.vy in
    let fy = fits w64 sy (lit< tt) in
    let fn = fits w64 c.requires.direction.east (lit< tt) in
    simp to_z-of_z (fits w64 (times sy c.requires.direction.east) (lit< tt))

pub overflow_sub-result : goal.overflow_sub-result
overflow_sub-result c =
    let own = c.args.own.now in
    let d = c.args.direction.now in
    let sized = place_parts own c.requires.own in
    let x : FitsSigned w32 own.vx = search rules in
    let y : FitsSigned w32 own.vy = search rules in
    let ex : c.from.result ≡ own.vx = simp to_z-of_z at c.from.ensures in
    let ey : c.from-2.result ≡ own.vy = simp to_z-of_z at c.from-2.ensures in
    let sx = as_within ex sized.vx in
    let sy = as_within ey sized.vy in
    let fx = fits w64 sx (lit< tt) in
    let fy = fits w64 sy (lit< tt) in
    let fe = fits w64 c.requires.direction.east (lit< tt) in
    let fn = fits w64 c.requires.direction.north (lit< tt) in
    let px = times sx c.requires.direction.north in
    let py = times sy c.requires.direction.east in
    let gx = fits w64 px (lit< tt) in
    let gy = fits w64 py (lit< tt) in
    simp to_z-of_z (fits w64 (minus px py) (lit< tt))

pub returns : goal.returns
unfolding across
returns c =
    let own = c.args.own.now in
    let d = c.args.direction.now in
    let sized = place_parts own c.requires.own in
    let x : FitsSigned w32 own.vx = search rules in
    let y : FitsSigned w32 own.vy = search rules in
    let ex : c.from.result ≡ own.vx = simp to_z-of_z at c.from.ensures in
    let ey : c.from-2.result ≡ own.vy = simp to_z-of_z at c.from-2.ensures in
    let sx = as_within ex sized.vx in
    let sy = as_within ey sized.vy in
    let fx = fits w64 sx (lit< tt) in
    let fy = fits w64 sy (lit< tt) in
    let fe = fits w64 c.requires.direction.east (lit< tt) in
    let fn = fits w64 c.requires.direction.north (lit< tt) in
    let px = times sx c.requires.direction.north in
    let py = times sy c.requires.direction.east in
    let gx = fits w64 px (lit< tt) in
    let gy = fits w64 py (lit< tt) in
    let all : c.from.result *ℤ d.north -ℤ c.from-2.result *ℤ d.east ≡ across own d = λ i. ex i *ℤ d.north -ℤ ey i *ℤ d.east in
    let s = as_within all (across-within own d sized c.requires.direction) in
    let f = fits w64 s (lit< tt) in
    record { value = simp to_z-of_z all; size = simp to_z-of_z s }
