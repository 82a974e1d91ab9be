use Rattle.std.proofs.Common.{rules, ◌≡◌, ◌∙◌, ap, ℤ, pos, FitsSigned, w32, w64, to_z-of_z, arith, lit<}
use Rattle.daa_fixed.proofs.Bounds.{fits, as_within}
use Rattle.daa_plane.specs.Sight.{turned_east, turned_north, way_angle, speed_angle, seen_along}
use Rattle.daa_plane.proofs.PlaceLemmas.{place_parts}
use Rattle.daa_plane.proofs.SightLemmas.{turned_east-within, turned_north-within, way_angle-within, speed_angle-within}
use Rattle.daa_plane.proofs.Sizes.{wider}
use Rattle.daa_plane.proofs.sight.seen_along.Goals as goal

pub turned-speed-requires-clause-east : goal.turned-speed-requires-clause-east
turned-speed-requires-clause-east c =
    let w : FitsSigned w32 c.args.aircraft.now.vx = search rules in
    let e : c.from.result ≡ c.args.aircraft.now.vx = simp to_z-of_z at c.from.ensures in
    let s = as_within e (place_parts c.args.aircraft.now c.requires.aircraft).vx in
    let f = fits w64 s (lit< tt) in
    simp to_z-of_z (wider 100000000 s tt)

pub turned-speed-requires-clause-north : goal.turned-speed-requires-clause-north
turned-speed-requires-clause-north c =
    let w : FitsSigned w32 c.args.aircraft.now.vy = search rules in
    let e : c.from-2.result ≡ c.args.aircraft.now.vy = simp to_z-of_z at c.from-2.ensures in
    let s = as_within e (place_parts c.args.aircraft.now c.requires.aircraft).vy in
    let f = fits w64 s (lit< tt) in
    simp to_z-of_z (wider 100000000 s tt)

pub overflow_cast-result : goal.overflow_cast-result
overflow_cast-result c =
    let way = c.args.way.now in
    let turn = c.args.turn in
    let fe = fits w64 c.requires.way.east (lit< tt) in
    let fn = fits w64 c.requires.way.north (lit< tt) in
    let ft = fits w64 c.requires.turn (lit< tt) in
    let fa = fits w64 c.way_angle.ensures.size (lit< tt) in
    let angle : c.way_angle.result ≡ way_angle way turn = simp to_z-of_z at c.way_angle.ensures.value in
    let near = way_angle-within way turn c.requires.way c.requires.turn in
    let x0 : c.turned-place.result.0 ≡ turned_east way.east way.north c.way_angle.result (pos 1000000000) = simp to_z-of_z at c.turned-place.ensures.east in
    let y0 : c.turned-place.result.1 ≡ turned_north way.east way.north c.way_angle.result (pos 1000000000) = simp to_z-of_z at c.turned-place.ensures.north in
    let x = x0 ∙ ap (λ (z : ℤ). turned_east way.east way.north z (pos 1000000000)) angle in
    let y = y0 ∙ ap (λ (z : ℤ). turned_north way.east way.north z (pos 1000000000)) angle in
    let sx = as_within x (turned_east-within 3000000 1000000000 way.east way.north (way_angle way turn) (omega arith) c.requires.way.east c.requires.way.north near tt) in
    let sy = as_within y (turned_north-within 3000000 1000000000 way.east way.north (way_angle way turn) (omega arith) c.requires.way.east c.requires.way.north near tt) in
    let fx = fits w64 sx (lit< tt) in
    let fy = fits w64 sy (lit< tt) in
    simp to_z-of_z (fits w32 sx (lit< tt))

pub overflow_cast-result-2 : goal.overflow_cast-result-2
overflow_cast-result-2 c =
    let way = c.args.way.now in
    let turn = c.args.turn in
    let fe = fits w64 c.requires.way.east (lit< tt) in
    let fn = fits w64 c.requires.way.north (lit< tt) in
    let ft = fits w64 c.requires.turn (lit< tt) in
    let fa = fits w64 c.way_angle.ensures.size (lit< tt) in
    let angle : c.way_angle.result ≡ way_angle way turn = simp to_z-of_z at c.way_angle.ensures.value in
    let near = way_angle-within way turn c.requires.way c.requires.turn in
    let x0 : c.turned-place.result.0 ≡ turned_east way.east way.north c.way_angle.result (pos 1000000000) = simp to_z-of_z at c.turned-place.ensures.east in
    let y0 : c.turned-place.result.1 ≡ turned_north way.east way.north c.way_angle.result (pos 1000000000) = simp to_z-of_z at c.turned-place.ensures.north in
    let x = x0 ∙ ap (λ (z : ℤ). turned_east way.east way.north z (pos 1000000000)) angle in
    let y = y0 ∙ ap (λ (z : ℤ). turned_north way.east way.north z (pos 1000000000)) angle in
    let sx = as_within x (turned_east-within 3000000 1000000000 way.east way.north (way_angle way turn) (omega arith) c.requires.way.east c.requires.way.north near tt) in
    let sy = as_within y (turned_north-within 3000000 1000000000 way.east way.north (way_angle way turn) (omega arith) c.requires.way.east c.requires.way.north near tt) in
    let fx = fits w64 sx (lit< tt) in
    let fy = fits w64 sy (lit< tt) in
    simp to_z-of_z (fits w32 sy (lit< tt))

pub overflow_cast-result-3 : goal.overflow_cast-result-3
overflow_cast-result-3 c =
    let aircraft = c.args.aircraft.now in
    let sized = place_parts aircraft c.requires.aircraft in
    let wx : FitsSigned w32 aircraft.vx = search rules in
    let wy : FitsSigned w32 aircraft.vy = search rules in
    let ex : c.from.result ≡ aircraft.vx = simp to_z-of_z at c.from.ensures in
    let ey : c.from-2.result ≡ aircraft.vy = simp to_z-of_z at c.from-2.ensures in
    let sex = as_within ex sized.vx in
    let sey = as_within ey sized.vy in
    let gx = fits w64 sex (lit< tt) in
    let gy = fits w64 sey (lit< tt) in
    let gt = fits w64 c.requires.turn (lit< tt) in
    let ga = fits w64 c.speed_angle.ensures.size (lit< tt) in
    let turns : c.speed_angle.result ≡ speed_angle c.args.way.now c.args.turn = simp to_z-of_z at c.speed_angle.ensures.value in
    let far = speed_angle-within c.args.way.now c.args.turn c.requires.way c.requires.turn in
    let u0 : c.turned-speed.result.0 ≡ turned_east c.from.result c.from-2.result c.speed_angle.result (pos 10000000) = simp to_z-of_z at c.turned-speed.ensures.east in
    let v0 : c.turned-speed.result.1 ≡ turned_north c.from.result c.from-2.result c.speed_angle.result (pos 10000000) = simp to_z-of_z at c.turned-speed.ensures.north in
    let u = u0 ∙ (λ i. turned_east (ex i) (ey i) (turns i) (pos 10000000)) in
    let v = v0 ∙ (λ i. turned_north (ex i) (ey i) (turns i) (pos 10000000)) in
    let su = as_within u (turned_east-within 21000 10000000 aircraft.vx aircraft.vy (speed_angle c.args.way.now c.args.turn) (omega arith) sized.vx sized.vy far tt) in
    let sv = as_within v (turned_north-within 21000 10000000 aircraft.vx aircraft.vy (speed_angle c.args.way.now c.args.turn) (omega arith) sized.vx sized.vy far tt) in
    let fu = fits w64 su (lit< tt) in
    let fv = fits w64 sv (lit< tt) in
    simp to_z-of_z (fits w32 su (lit< tt))

pub overflow_cast-result-4 : goal.overflow_cast-result-4
overflow_cast-result-4 c =
    let aircraft = c.args.aircraft.now in
    let sized = place_parts aircraft c.requires.aircraft in
    let wx : FitsSigned w32 aircraft.vx = search rules in
    let wy : FitsSigned w32 aircraft.vy = search rules in
    let ex : c.from.result ≡ aircraft.vx = simp to_z-of_z at c.from.ensures in
    let ey : c.from-2.result ≡ aircraft.vy = simp to_z-of_z at c.from-2.ensures in
    let sex = as_within ex sized.vx in
    let sey = as_within ey sized.vy in
    let gx = fits w64 sex (lit< tt) in
    let gy = fits w64 sey (lit< tt) in
    let gt = fits w64 c.requires.turn (lit< tt) in
    let ga = fits w64 c.speed_angle.ensures.size (lit< tt) in
    let turns : c.speed_angle.result ≡ speed_angle c.args.way.now c.args.turn = simp to_z-of_z at c.speed_angle.ensures.value in
    let far = speed_angle-within c.args.way.now c.args.turn c.requires.way c.requires.turn in
    let u0 : c.turned-speed.result.0 ≡ turned_east c.from.result c.from-2.result c.speed_angle.result (pos 10000000) = simp to_z-of_z at c.turned-speed.ensures.east in
    let v0 : c.turned-speed.result.1 ≡ turned_north c.from.result c.from-2.result c.speed_angle.result (pos 10000000) = simp to_z-of_z at c.turned-speed.ensures.north in
    let u = u0 ∙ (λ i. turned_east (ex i) (ey i) (turns i) (pos 10000000)) in
    let v = v0 ∙ (λ i. turned_north (ex i) (ey i) (turns i) (pos 10000000)) in
    let su = as_within u (turned_east-within 21000 10000000 aircraft.vx aircraft.vy (speed_angle c.args.way.now c.args.turn) (omega arith) sized.vx sized.vy far tt) in
    let sv = as_within v (turned_north-within 21000 10000000 aircraft.vx aircraft.vy (speed_angle c.args.way.now c.args.turn) (omega arith) sized.vx sized.vy far tt) in
    let fu = fits w64 su (lit< tt) in
    let fv = fits w64 sv (lit< tt) in
    simp to_z-of_z (fits w32 sv (lit< tt))

pub returns : goal.returns
unfolding seen_along
returns c =
    let way = c.args.way.now in
    let turn = c.args.turn in
    let fe = fits w64 c.requires.way.east (lit< tt) in
    let fn = fits w64 c.requires.way.north (lit< tt) in
    let ft = fits w64 c.requires.turn (lit< tt) in
    let fa = fits w64 c.way_angle.ensures.size (lit< tt) in
    let angle : c.way_angle.result ≡ way_angle way turn = simp to_z-of_z at c.way_angle.ensures.value in
    let near = way_angle-within way turn c.requires.way c.requires.turn in
    let x0 : c.turned-place.result.0 ≡ turned_east way.east way.north c.way_angle.result (pos 1000000000) = simp to_z-of_z at c.turned-place.ensures.east in
    let y0 : c.turned-place.result.1 ≡ turned_north way.east way.north c.way_angle.result (pos 1000000000) = simp to_z-of_z at c.turned-place.ensures.north in
    let x = x0 ∙ ap (λ (z : ℤ). turned_east way.east way.north z (pos 1000000000)) angle in
    let y = y0 ∙ ap (λ (z : ℤ). turned_north way.east way.north z (pos 1000000000)) angle in
    let sx = as_within x (turned_east-within 3000000 1000000000 way.east way.north (way_angle way turn) (omega arith) c.requires.way.east c.requires.way.north near tt) in
    let sy = as_within y (turned_north-within 3000000 1000000000 way.east way.north (way_angle way turn) (omega arith) c.requires.way.east c.requires.way.north near tt) in
    let fx = fits w64 sx (lit< tt) in
    let fy = fits w64 sy (lit< tt) in
    let aircraft = c.args.aircraft.now in
    let sized = place_parts aircraft c.requires.aircraft in
    let wx : FitsSigned w32 aircraft.vx = search rules in
    let wy : FitsSigned w32 aircraft.vy = search rules in
    let ex : c.from.result ≡ aircraft.vx = simp to_z-of_z at c.from.ensures in
    let ey : c.from-2.result ≡ aircraft.vy = simp to_z-of_z at c.from-2.ensures in
    let sex = as_within ex sized.vx in
    let sey = as_within ey sized.vy in
    let gx = fits w64 sex (lit< tt) in
    let gy = fits w64 sey (lit< tt) in
    let gt = fits w64 c.requires.turn (lit< tt) in
    let ga = fits w64 c.speed_angle.ensures.size (lit< tt) in
    let turns : c.speed_angle.result ≡ speed_angle c.args.way.now c.args.turn = simp to_z-of_z at c.speed_angle.ensures.value in
    let far = speed_angle-within c.args.way.now c.args.turn c.requires.way c.requires.turn in
    let u0 : c.turned-speed.result.0 ≡ turned_east c.from.result c.from-2.result c.speed_angle.result (pos 10000000) = simp to_z-of_z at c.turned-speed.ensures.east in
    let v0 : c.turned-speed.result.1 ≡ turned_north c.from.result c.from-2.result c.speed_angle.result (pos 10000000) = simp to_z-of_z at c.turned-speed.ensures.north in
    let u = u0 ∙ (λ i. turned_east (ex i) (ey i) (turns i) (pos 10000000)) in
    let v = v0 ∙ (λ i. turned_north (ex i) (ey i) (turns i) (pos 10000000)) in
    let su = as_within u (turned_east-within 21000 10000000 aircraft.vx aircraft.vy (speed_angle c.args.way.now c.args.turn) (omega arith) sized.vx sized.vy far tt) in
    let sv = as_within v (turned_north-within 21000 10000000 aircraft.vx aircraft.vy (speed_angle c.args.way.now c.args.turn) (omega arith) sized.vx sized.vy far tt) in
    let fu = fits w64 su (lit< tt) in
    let fv = fits w64 sv (lit< tt) in
    let hx = fits w32 sx (lit< tt) in
    let hy = fits w32 sy (lit< tt) in
    let hu = fits w32 su (lit< tt) in
    let hv = fits w32 sv (lit< tt) in
    record {
      value = simp to_z-of_z (λ i. record { x = x i; y = y i; vx = u i; vy = v i });
      size = record { x = simp to_z-of_z sx; y = simp to_z-of_z sy };
    }
