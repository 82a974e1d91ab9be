use Rattle.std.proofs.Common.{rules, w32, FitsSigned}
use Rattle.daa_bands.specs.Board.{HasLevelOn}
use Rattle.daa_resolve.proofs.OpenOnSideLemmas.{both_tests, first_test}
use Rattle.daa_resolve.proofs.resolution.is_open_on_side.Goals as goal

pub returns-then-is_on_side : goal.returns-then-is_on_side
returns-then-is_on_side c =
    let f : FitsSigned w32 c.value-value.result = search rules in let g : FitsSigned w32 c.present.result = search rules in
    both_tests (HasLevelOn c.args.board.now) c.args.config.now c.args.own.now c.args.kind c.args.side c.args.index c.start.result c.value-value.result c.present.result
    c.is_on_side.result c.is_open.result c.value-value.ensures.value c.start.ensures.value c.present.ensures f g c.is_on_side.ensures c.if-is_on_side.true c.is_open.ensures

pub returns-else-is_on_side : goal.returns-else-is_on_side
returns-else-is_on_side c =
    let f : FitsSigned w32 c.value-value.result = search rules in let g : FitsSigned w32 c.present.result = search rules in
    first_test (HasLevelOn c.args.board.now) c.args.config.now c.args.own.now c.args.kind c.args.side c.args.index c.start.result c.value-value.result c.present.result
    c.is_on_side.result c.is_on_side.result c.value-value.ensures.value c.start.ensures.value c.present.ensures f g c.is_on_side.ensures c.if-is_on_side.false
