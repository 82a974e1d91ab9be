use Rattle.std.proofs.Common.{rules, FitsSigned, w32, to_z-of_z}
use Rattle.daa_exercise.proofs.DrawLemmas.{own_drawn}
use Rattle.daa_exercise.proofs.draws.Draws.next_own.Goals as goal

pub returns-clause-value : goal.returns-clause-value
returns-clause-value c =
    let fa : FitsSigned w32 c.pick-alt.result = search rules in
    let ft : FitsSigned w32 c.pick-trk.result = search rules in
    let fg : FitsSigned w32 c.pick-gs.result = search rules in
    let fv : FitsSigned w32 c.pick-vs.result = search rules in
    simp to_z-of_z
    (own_drawn c.args.self.now c.pick-alt.new.self c.pick-trk.new.self c.pick-gs.new.self c.pick-vs.new.self
    c.pick-alt.result c.pick-trk.result c.pick-gs.result c.pick-vs.result
    c.pick-alt.ensures.rest c.pick-trk.ensures.rest c.pick-gs.ensures.rest c.pick-vs.ensures.rest
    c.pick-alt.ensures.value c.pick-trk.ensures.value c.pick-gs.ensures.value c.pick-vs.ensures.value).0

pub returns-clause-rest : goal.returns-clause-rest
returns-clause-rest c =
    (own_drawn c.args.self.now c.pick-alt.new.self c.pick-trk.new.self c.pick-gs.new.self c.pick-vs.new.self
    c.pick-alt.result c.pick-trk.result c.pick-gs.result c.pick-vs.result
    c.pick-alt.ensures.rest c.pick-trk.ensures.rest c.pick-gs.ensures.rest c.pick-vs.ensures.rest
    c.pick-alt.ensures.value c.pick-trk.ensures.value c.pick-gs.ensures.value c.pick-vs.ensures.value).1
