use Rattle.std.proofs.Common.{rules, ◌≡◌, pos, ◌*ℤ◌, FitsSigned, w32, w64, to_z-of_z}
use Rattle.daa_legs.proofs.flight.place_now.Goals as goal

pub returns : goal.returns
returns c =
    let fx : FitsSigned w32 c.args.own.now.x = search rules in
    let fy : FitsSigned w32 c.args.own.now.y = search rules in
    let fz : FitsSigned w32 c.args.own.now.alt = search rules in
    let gx : FitsSigned w64 c.mils.result = search rules in
    let gy : FitsSigned w64 c.mils-2.result = search rules in
    let gz : FitsSigned w64 c.feet.result = search rules in
    let ex : c.mils.result ≡ pos 36 *ℤ c.args.own.now.x = simp to_z-of_z at c.mils.ensures in
    let ey : c.mils-2.result ≡ pos 36 *ℤ c.args.own.now.y = simp to_z-of_z at c.mils-2.ensures in
    let ez : c.feet.result ≡ pos 60 *ℤ c.args.own.now.alt = simp to_z-of_z at c.feet.ensures in
    simp to_z-of_z (λ i. record { flat = record { east = ex i; north = ey i }; up = ez i })
