use Rattle.std.proofs.Common.{rules, ◌∙◌, ◌≡◌, pos, FitsSigned, w32, w64, to_z-of_z, ◌+ℤ◌, ◌*ℤ◌}
use Rattle.daa_legs.proofs.TrafficPlaces.{east_within, north_within, up_within, place_later}
use Rattle.daa_legs.proofs.traffic.place_from.Goals as goal

pub coordinate_after-requires-clause-begin : goal.coordinate_after-requires-clause-begin
coordinate_after-requires-clause-begin c =
    let f : FitsSigned w64 c.args.now.now.flat.east = search rules in
    simp to_z-of_z (east_within c.args.aircraft.now c.requires.aircraft c.args.now.now c.requires.now)

pub coordinate_after-requires-2-clause-begin : goal.coordinate_after-requires-2-clause-begin
coordinate_after-requires-2-clause-begin c =
    let f : FitsSigned w64 c.args.now.now.flat.north = search rules in
    simp to_z-of_z (north_within c.args.aircraft.now c.requires.aircraft c.args.now.now c.requires.now)

pub coordinate_after-requires-3-clause-begin : goal.coordinate_after-requires-3-clause-begin
coordinate_after-requires-3-clause-begin c =
    let f : FitsSigned w64 c.args.now.now.up = search rules in
    simp to_z-of_z (up_within c.args.aircraft.now c.requires.aircraft c.args.now.now c.requires.now)

pub returns-clause-value : goal.returns-clause-value
returns-clause-value c =
    let fvx : FitsSigned w32 c.args.aircraft.now.vx = search rules in
    let nvx : FitsSigned w64 c.args.now.now.flat.east = search rules in
    let rvx : FitsSigned w64 c.coordinate_after.result = search rules in
    let evx : c.coordinate_after.result ≡ c.args.now.now.flat.east +ℤ pos c.args.k *ℤ c.args.aircraft.now.vx = simp to_z-of_z at c.coordinate_after.ensures.value in
    let fvy : FitsSigned w32 c.args.aircraft.now.vy = search rules in
    let nvy : FitsSigned w64 c.args.now.now.flat.north = search rules in
    let rvy : FitsSigned w64 c.coordinate_after-2.result = search rules in
    let evy : c.coordinate_after-2.result ≡ c.args.now.now.flat.north +ℤ pos c.args.k *ℤ c.args.aircraft.now.vy = simp to_z-of_z at c.coordinate_after-2.ensures.value in
    let fvs : FitsSigned w32 c.args.aircraft.now.vs = search rules in
    let nvs : FitsSigned w64 c.args.now.now.up = search rules in
    let rvs : FitsSigned w64 c.coordinate_after-3.result = search rules in
    let evs : c.coordinate_after-3.result ≡ c.args.now.now.up +ℤ pos c.args.k *ℤ c.args.aircraft.now.vs = simp to_z-of_z at c.coordinate_after-3.ensures.value in
    simp to_z-of_z (λ i. record { flat = record { east = evx i; north = evy i }; up = evs i }) ∙ place_later c.args.aircraft.now c.requires.aircraft c.args.now.now c.requires.now c.args.k
