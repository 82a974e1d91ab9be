use Rattle.std.proofs.Common.{rules, ◌≡◌, ◌+ℤ◌, ◌*ℤ◌, pos, FitsSigned, w32, w64, to_z-of_z, lit<}
use Rattle.std.specs.Prelude.{int_le}
use Rattle.daa_fixed.proofs.Bounds.{fits, as_within, plus, times}
use Rattle.daa_plane.proofs.sight.is_in_sight.Goals as goal

pub returns : goal.returns
returns c =
    let seen = c.args.seen.now in
    let x : FitsSigned w32 seen.x = search rules in
    let y : FitsSigned w32 seen.y = search rules in
    let ex : c.from-x.result ≡ seen.x = simp to_z-of_z at c.from-x.ensures in
    let ey : c.from-y.result ≡ seen.y = simp to_z-of_z at c.from-y.ensures in
    let sx = as_within ex c.requires.x in
    let sy = as_within ey c.requires.y in
    let fx = fits w64 sx (lit< tt) in
    let fy = fits w64 sy (lit< tt) in
    let gx = fits w64 (times sx sx) (lit< tt) in
    let gy = fits w64 (times sy sy) (lit< tt) in
    let gs = fits w64 (plus (times sx sx) (times sy sy)) (lit< tt) in
    simp to_z-of_z (λ i. int_le (ex i *ℤ ex i +ℤ ey i *ℤ ey i) (pos 10000000000))
