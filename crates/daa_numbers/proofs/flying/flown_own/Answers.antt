use Rattle.std.proofs.Common.{◌≡◌, ◌∙◌, ap, ℤ, rules, FitsSigned, w32, w64, to_z-of_z, arith, lit<}
use Rattle.std.proofs.lemmas.Int.{ints}
use Rattle.daa_fixed.specs.Size.{IsWithin}
use Rattle.daa_fixed.specs.declared.Flat.{Flat}
use Rattle.daa_fixed.proofs.Bounds.{fits, as_within}
use Rattle.daa_heading.specs.Heading.{velocity_of}
use Rattle.daa_heading.proofs.Sines.{east-within, north-within}
use Rattle.daa_numbers.specs.Flown.{place_after, altitude_after}
use Rattle.daa_numbers.proofs.flying.flown_own.Goals as goal

pub place_after-requires-clause-speed : goal.place_after-requires-clause-speed
place_after-requires-clause-speed c =
    let own = c.args.own.now in
    let g : FitsSigned w32 own.gs = search rules in
    let d : FitsSigned w32 own.trk = search rules in
    let is : c.velocity-speed.result ≡ velocity_of own.gs own.trk = simp to_z-of_z at c.velocity-speed.ensures in
    let small : IsWithin 10000 (velocity_of own.gs own.trk).east =
    record { size = omega (arith, ints, (east-within own.gs own.trk).size, c.requires.range.gs.0, c.requires.range.gs.1) } in
    let within : IsWithin 10000 c.velocity-speed.result.east = as_within (ap (λ (f : Flat). f.east) is) small in
    let f = fits w64 within (lit< tt) in
    simp to_z-of_z within

pub place_after-requires-2-clause-speed : goal.place_after-requires-2-clause-speed
place_after-requires-2-clause-speed c =
    let own = c.args.own.now in
    let g : FitsSigned w32 own.gs = search rules in
    let d : FitsSigned w32 own.trk = search rules in
    let is : c.velocity-speed.result ≡ velocity_of own.gs own.trk = simp to_z-of_z at c.velocity-speed.ensures in
    let small : IsWithin 10000 (velocity_of own.gs own.trk).north =
    record { size = omega (arith, ints, (north-within own.gs own.trk).size, c.requires.range.gs.0, c.requires.range.gs.1) } in
    let within : IsWithin 10000 c.velocity-speed.result.north = as_within (ap (λ (f : Flat). f.north) is) small in
    let f = fits w64 within (lit< tt) in
    simp to_z-of_z within

pub returns : goal.returns
returns c =
    let own = c.args.own.now in
    let ms = c.args.ms in
    let t : FitsSigned w64 ms = search rules in
    let g : FitsSigned w32 own.gs = search rules in
    let d : FitsSigned w32 own.trk = search rules in
    let u : FitsSigned w32 own.vs = search rules in
    let a : FitsSigned w32 own.x = search rules in
    let b : FitsSigned w32 own.y = search rules in
    let h : FitsSigned w32 own.alt = search rules in
    let is : c.velocity-speed.result ≡ velocity_of own.gs own.trk = simp to_z-of_z at c.velocity-speed.ensures in
    let east : c.velocity-speed.result.east ≡ (velocity_of own.gs own.trk).east = ap (λ (f : Flat). f.east) is in
    let north : c.velocity-speed.result.north ≡ (velocity_of own.gs own.trk).north = ap (λ (f : Flat). f.north) is in
    let e : FitsSigned w64 c.velocity-speed.result.east = search rules in
    let n : FitsSigned w64 c.velocity-speed.result.north = search rules in
    let rx : FitsSigned w32 c.place_after.result = search rules in
    let ry : FitsSigned w32 c.place_after-2.result = search rules in
    let ra : FitsSigned w32 c.altitude_after.result = search rules in
    let x : c.place_after.result ≡ place_after own.x c.velocity-speed.result.east ms = simp to_z-of_z at c.place_after.ensures in
    let y : c.place_after-2.result ≡ place_after own.y c.velocity-speed.result.north ms = simp to_z-of_z at c.place_after-2.ensures in
    let alt : c.altitude_after.result ≡ altitude_after own.alt own.vs ms = simp to_z-of_z at c.altitude_after.ensures in
    let x_is = x ∙ ap (λ (v : ℤ). place_after own.x v ms) east in
    let y_is = y ∙ ap (λ (v : ℤ). place_after own.y v ms) north in
    simp to_z-of_z (λ i. record { x = x_is i; y = y_is i; alt = alt i; trk = own.trk; gs = own.gs; vs = own.vs })
