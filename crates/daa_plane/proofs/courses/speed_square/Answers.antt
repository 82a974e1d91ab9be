use Rattle.std.proofs.Common.{rules, ◌≡◌, sym, subst, ℤ, pos, ◌+ℤ◌, ◌*ℤ◌, FitsSigned, w32, w64, to_z-of_z, lit<}
use Rattle.daa_fixed.specs.Size.{IsFrom}
use Rattle.daa_fixed.proofs.Bounds.{fits, as_within, plus, times}
use Rattle.daa_plane.specs.Courses.{speed_square}
use Rattle.daa_plane.proofs.PlaceLemmas.{place_parts}
use Rattle.daa_plane.proofs.CourseLemmas.{square-from}
use Rattle.daa_plane.proofs.courses.speed_square.Goals as goal

pub overflow_add-result : goal.overflow_add-result
overflow_add-result c =
    let own = c.args.own.now in
    let sized = place_parts own c.requires in
    let x : FitsSigned w32 own.vx = search rules in
    let y : FitsSigned w32 own.vy = search rules in
    let ex : c.from-vx.result ≡ own.vx = simp to_z-of_z at c.from-vx.ensures in
    let ey : c.from-vy.result ≡ own.vy = simp to_z-of_z at c.from-vy.ensures in
    let sx = as_within ex sized.vx in
    let sy = as_within ey sized.vy in
    let fx = fits w64 sx (lit< tt) in
    let fy = fits w64 sy (lit< tt) in
    let gx = fits w64 (times sx sx) (lit< tt) in
    let gy = fits w64 (times sy sy) (lit< tt) in
    simp to_z-of_z (fits w64 (plus (times sx sx) (times sy sy)) (lit< tt))

pub returns : goal.returns
returns c =
    let own = c.args.own.now in
    let sized = place_parts own c.requires in
    let x : FitsSigned w32 own.vx = search rules in
    let y : FitsSigned w32 own.vy = search rules in
    let ex : c.from-vx.result ≡ own.vx = simp to_z-of_z at c.from-vx.ensures in
    let ey : c.from-vy.result ≡ own.vy = simp to_z-of_z at c.from-vy.ensures in
    let sx = as_within ex sized.vx in
    let sy = as_within ey sized.vy in
    let fx = fits w64 sx (lit< tt) in
    let fy = fits w64 sy (lit< tt) in
    let px = times sx sx in
    let py = times sy sy in
    let gx = fits w64 px (lit< tt) in
    let gy = fits w64 py (lit< tt) in
    let gs = fits w64 (plus px py) (lit< tt) in
    let all : c.from-vx.result *ℤ c.from-vx.result +ℤ c.from-vy.result *ℤ c.from-vy.result ≡ speed_square own = λ i. ex i *ℤ ex i +ℤ ey i *ℤ ey i in
    record { value = simp to_z-of_z all; range = simp to_z-of_z (subst (λ (z : ℤ). IsFrom (pos 0) (pos 200000000) z) (sym all) (square-from own sized)) }
