use Rattle.std.proofs.Common.{◌∙◌, ℤ, Some, sym, ap, rules, IsTrue, false, w32, FitsSigned}
use Rattle.std.proofs.lemmas.Int.{to_z-of_z}
use Rattle.daa_bands.specs.Board.{HasLevelOn}
use Rattle.daa_resolve.proofs.BestLemmas.{nothing, going}
use Rattle.daa_resolve.proofs.resolution.nearest.Goals as goal

pub returns-in-Some : goal.returns-in-Some
returns-in-Some c =
    let f : FitsSigned w32 c.value.result = search rules in
    going (HasLevelOn c.args.board.now) c.args.config.now c.args.own.now c.args.kind c.args.side
    (λ o. let t : IsTrue false = c.if-is_open.ensures.1 o in cc) c.in-Some.index _ c.in-Some.ensures
    (c.value.ensures.value ∙ ap (λ (z : ℤ). Some z) (sym (to_z-of_z w32 c.value.result f)))

pub returns-in-None : goal.returns-in-None
returns-in-None c =
    nothing (HasLevelOn c.args.board.now) c.args.config.now c.args.own.now c.args.kind c.args.side
    (λ o. let t : IsTrue false = c.if-is_open.ensures.1 o in cc) c.in-None.ensures
