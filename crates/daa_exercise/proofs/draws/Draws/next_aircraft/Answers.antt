use Rattle.std.proofs.Common.{rules, FitsSigned, w32, to_z-of_z, ◌+ℤ◌}
use Rattle.daa_exercise.proofs.DrawLemmas.{aircraft_drawn, fits_above}
use Rattle.daa_exercise.proofs.draws.Draws.next_aircraft.Goals as goal

pub returns-clause-value : goal.returns-clause-value
returns-clause-value c =
    let fx : FitsSigned w32 c.pick-x.result = search rules in
    let fy : FitsSigned w32 c.pick-y.result = search rules in
    let fh : FitsSigned w32 c.pick.result = search rules in
    let fo : FitsSigned w32 c.args.own.now.alt = search rules in
    let fe : FitsSigned w32 c.pick-vx.result = search rules in
    let fn : FitsSigned w32 c.pick-vy.result = search rules in
    let fv : FitsSigned w32 c.pick-vs.result = search rules in
    let fs : FitsSigned w32 (c.args.own.now.alt +ℤ c.pick.result) = fits_above c.args.own.now.alt c.pick.result c.requires.low c.requires.high c.pick.ensures.least c.pick.ensures.most in
    simp to_z-of_z
    (aircraft_drawn c.args.self.now c.pick-x.new.self c.pick-y.new.self c.pick.new.self c.pick-vx.new.self c.pick-vy.new.self c.pick-vs.new.self
    c.args.own.now.alt c.args.number c.name.result c.pick-x.result c.pick-y.result c.pick.result c.pick-vx.result c.pick-vy.result c.pick-vs.result
    c.pick-x.ensures.rest c.pick-y.ensures.rest c.pick.ensures.rest c.pick-vx.ensures.rest c.pick-vy.ensures.rest c.pick-vs.ensures.rest c.name.ensures
    c.pick-x.ensures.value c.pick-y.ensures.value c.pick.ensures.value c.pick-vx.ensures.value c.pick-vy.ensures.value c.pick-vs.ensures.value).0

pub returns-clause-rest : goal.returns-clause-rest
returns-clause-rest c =
    (aircraft_drawn c.args.self.now c.pick-x.new.self c.pick-y.new.self c.pick.new.self c.pick-vx.new.self c.pick-vy.new.self c.pick-vs.new.self
    c.args.own.now.alt c.args.number c.name.result c.pick-x.result c.pick-y.result c.pick.result c.pick-vx.result c.pick-vy.result c.pick-vs.result
    c.pick-x.ensures.rest c.pick-y.ensures.rest c.pick.ensures.rest c.pick-vx.ensures.rest c.pick-vy.ensures.rest c.pick-vs.ensures.rest c.name.ensures
    c.pick-x.ensures.value c.pick-y.ensures.value c.pick.ensures.value c.pick-vx.ensures.value c.pick-vy.ensures.value c.pick-vs.ensures.value).1
