use Rattle.std.proofs.Common.{arith}
use Rattle.daa_scan.proofs.Marks.{nested_at, exact_else}
use Rattle.daa_scan.proofs.marking.is_nested.Goals as goal

pub returns-then-l-gt1 : goal.returns-then-l-gt1
returns-then-l-gt1 c level at t = nested_at c.args.encounter.now.config.now c.args.encounter.now.aircraft.now c.args.l c.level.result.now c.level-then-l-gt1.result.now
    (exact_else _ _ c.are_exact.ensures c.if-not-are_exact.false)
    (omega (arith, c.if-l-gt1.true)) c.level.ensures.value c.level-then-l-gt1.ensures.value (c.lies_within.ensures.0 t) level at
