use Rattle.std.proofs.Common.{rules, ◌≡◌, FitsSigned, w32, w64, to_z-of_z}
use Rattle.daa_legs.proofs.traffic.velocity_of.Goals as goal

pub returns-clause-value : goal.returns-clause-value
returns-clause-value c =
    let fvx : FitsSigned w32 c.args.aircraft.now.vx = search rules in
    let gvx : FitsSigned w64 c.from.result = search rules in
    let evx : c.from.result ≡ c.args.aircraft.now.vx = simp to_z-of_z at c.from.ensures in
    let fvy : FitsSigned w32 c.args.aircraft.now.vy = search rules in
    let gvy : FitsSigned w64 c.from-2.result = search rules in
    let evy : c.from-2.result ≡ c.args.aircraft.now.vy = simp to_z-of_z at c.from-2.ensures in
    let fvs : FitsSigned w32 c.args.aircraft.now.vs = search rules in
    let gvs : FitsSigned w64 c.from-3.result = search rules in
    let evs : c.from-3.result ≡ c.args.aircraft.now.vs = simp to_z-of_z at c.from-3.ensures in
    simp to_z-of_z (λ i. record { flat = record { east = evx i; north = evy i }; up = evs i })
