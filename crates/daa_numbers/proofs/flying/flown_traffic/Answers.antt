use Rattle.std.proofs.Common.{◌≡◌, ◌∙◌, ap, ℤ, rules, FitsSigned, w32, w64, to_z-of_z}
use Rattle.daa_numbers.specs.Flown.{place_after, altitude_after}
use Rattle.daa_numbers.proofs.flying.flown_traffic.Goals as goal

pub returns : goal.returns
returns c =
    let t = c.args.traffic.now in
    let ms = c.args.ms in
    let f : FitsSigned w64 ms = search rules in
    let fx : FitsSigned w32 t.x = search rules in
    let fy : FitsSigned w32 t.y = search rules in
    let fa : FitsSigned w32 t.alt = search rules in
    let fu : FitsSigned w32 t.vx = search rules in
    let fv : FitsSigned w32 t.vy = search rules in
    let fw : FitsSigned w32 t.vs = search rules in
    let gu : FitsSigned w64 c.from.result = search rules in
    let gv : FitsSigned w64 c.from-2.result = search rules in
    let rx : FitsSigned w32 c.place_after.result = search rules in
    let ry : FitsSigned w32 c.place_after-2.result = search rules in
    let ra : FitsSigned w32 c.altitude_after.result = search rules in
    let u : c.from.result ≡ t.vx = simp to_z-of_z at c.from.ensures in
    let v : c.from-2.result ≡ t.vy = simp to_z-of_z at c.from-2.ensures in
    let x : c.place_after.result ≡ place_after t.x c.from.result ms = simp to_z-of_z at c.place_after.ensures in
    let y : c.place_after-2.result ≡ place_after t.y c.from-2.result ms = simp to_z-of_z at c.place_after-2.ensures in
    let alt : c.altitude_after.result ≡ altitude_after t.alt t.vs ms = simp to_z-of_z at c.altitude_after.ensures in
    let x_is = x ∙ ap (λ (w : ℤ). place_after t.x w ms) u in
    let y_is = y ∙ ap (λ (w : ℤ). place_after t.y w ms) v in
    simp to_z-of_z (λ i. record { id = t.id; x = x_is i; y = y_is i; alt = alt i; vx = t.vx; vy = t.vy; vs = t.vs; age = c.args.age })
