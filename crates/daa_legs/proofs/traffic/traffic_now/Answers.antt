use Rattle.std.proofs.Common.{rules, ap, ◌∙◌, ◌≡◌, ℕ, ℤ, pos, FitsSigned, w32, w64, to_z-of_z, ◌+◌, ◌+ℤ◌, ◌*ℤ◌, arith}
use Rattle.std.proofs.lemmas.Int.{ints}
use Rattle.daa_legs.proofs.traffic.traffic_now.Goals as goal

pub coordinate_after-requires-3-clause-begin : goal.coordinate_after-requires-3-clause-begin
coordinate_after-requires-3-clause-begin c =
    let f : FitsSigned w32 c.args.aircraft.now.alt = search rules in
    let g : FitsSigned w64 c.feet.result = search rules in
    let e : c.feet.result ≡ pos 60 *ℤ c.args.aircraft.now.alt = simp to_z-of_z at c.feet.ensures in
    simp to_z-of_z (record { size = omega (arith, ints, e, c.requires.alt.0, c.requires.alt.1) })

pub coordinate_after-requires-3-clause-speed : goal.coordinate_after-requires-3-clause-speed
coordinate_after-requires-3-clause-speed c =
    let f : FitsSigned w32 c.args.aircraft.now.vs = search rules in
    simp to_z-of_z (record { size = omega (arith, ints, c.requires.vs.0, c.requires.vs.1) })

pub returns : goal.returns
returns c =
    let flown : ℕ = c.args.aircraft.now.age in
    let none : flown ≡ flown + 0 = omega arith in
    let fx : FitsSigned w32 c.args.aircraft.now.x = search rules in
    let fvx : FitsSigned w32 c.args.aircraft.now.vx = search rules in
    let ux : FitsSigned w64 c.mils.result = search rules in
    let ax : FitsSigned w64 c.coordinate_after.result = search rules in
    let mx : c.mils.result ≡ pos 36 *ℤ c.args.aircraft.now.x = simp to_z-of_z at c.mils.ensures in
    let ex = (simp to_z-of_z at c.coordinate_after.ensures.value) ∙ ap (λ (z : ℤ). z +ℤ pos flown *ℤ c.args.aircraft.now.vx) mx
    ∙ ap (λ (n : ℕ). pos 36 *ℤ c.args.aircraft.now.x +ℤ pos n *ℤ c.args.aircraft.now.vx) none in
    let fy : FitsSigned w32 c.args.aircraft.now.y = search rules in
    let fvy : FitsSigned w32 c.args.aircraft.now.vy = search rules in
    let uy : FitsSigned w64 c.mils-2.result = search rules in
    let ay : FitsSigned w64 c.coordinate_after-2.result = search rules in
    let my : c.mils-2.result ≡ pos 36 *ℤ c.args.aircraft.now.y = simp to_z-of_z at c.mils-2.ensures in
    let ey = (simp to_z-of_z at c.coordinate_after-2.ensures.value) ∙ ap (λ (z : ℤ). z +ℤ pos flown *ℤ c.args.aircraft.now.vy) my
    ∙ ap (λ (n : ℕ). pos 36 *ℤ c.args.aircraft.now.y +ℤ pos n *ℤ c.args.aircraft.now.vy) none in
    let falt : FitsSigned w32 c.args.aircraft.now.alt = search rules in
    let fvs : FitsSigned w32 c.args.aircraft.now.vs = search rules in
    let ualt : FitsSigned w64 c.feet.result = search rules in
    let aalt : FitsSigned w64 c.coordinate_after-3.result = search rules in
    let malt : c.feet.result ≡ pos 60 *ℤ c.args.aircraft.now.alt = simp to_z-of_z at c.feet.ensures in
    let ealt = (simp to_z-of_z at c.coordinate_after-3.ensures.value) ∙ ap (λ (z : ℤ). z +ℤ pos flown *ℤ c.args.aircraft.now.vs) malt
    ∙ ap (λ (n : ℕ). pos 60 *ℤ c.args.aircraft.now.alt +ℤ pos n *ℤ c.args.aircraft.now.vs) none in
    simp to_z-of_z (λ i. record { flat = record { east = ex i; north = ey i }; up = ealt i })
