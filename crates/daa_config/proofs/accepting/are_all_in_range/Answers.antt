use Rattle.std.proofs.Common.{◌∙◌, sym}
use Rattle.daa_config.specs.ConfigOf.{Written}
use Rattle.daa_config.proofs.RangeLemmas.{AreKindsFit, levels_decide, recovery_refuses, top_refuses}
use Rattle.daa_config.proofs.accepting.are_all_in_range.Goals as goal

pub returns-then-recovery_is_in_range : goal.returns-then-recovery_is_in_range
returns-then-recovery_is_in_range c =
    let w : Written = record { numbers = c.args.numbers.now; recovery = c.args.recovery.now; last_times = c.args.last_times.now; levels = c.args.levels.now } in
    let k : AreKindsFit w = record {
      top = sym c.top_is_in_range.ensures ∙ c.if-top_is_in_range.true;
      gs = sym c.grid_is_in_range.ensures ∙ c.if-grid_is_in_range.true;
      vs = sym c.grid_is_in_range-then-grid_is_in_range.ensures ∙ c.if-grid_is_in_range-2.true;
      alt = sym c.grid_is_in_range-then-grid_is_in_range-2.ensures ∙ c.if-grid_is_in_range-3.true;
    } in
    c.levels_are_in_range.ensures ∙ sym (levels_decide w k (sym c.recovery_is_in_range.ensures ∙ c.if-recovery_is_in_range.true))

pub returns-else-recovery_is_in_range : goal.returns-else-recovery_is_in_range
returns-else-recovery_is_in_range c =
    let w : Written = record { numbers = c.args.numbers.now; recovery = c.args.recovery.now; last_times = c.args.last_times.now; levels = c.args.levels.now } in
    let k : AreKindsFit w = record {
      top = sym c.top_is_in_range.ensures ∙ c.if-top_is_in_range.true;
      gs = sym c.grid_is_in_range.ensures ∙ c.if-grid_is_in_range.true;
      vs = sym c.grid_is_in_range-then-grid_is_in_range.ensures ∙ c.if-grid_is_in_range-2.true;
      alt = sym c.grid_is_in_range-then-grid_is_in_range-2.ensures ∙ c.if-grid_is_in_range-3.true;
    } in
    c.if-recovery_is_in_range.false ∙ sym (recovery_refuses w k (sym c.recovery_is_in_range.ensures ∙ c.if-recovery_is_in_range.false))

pub returns-else-top_is_in_range : goal.returns-else-top_is_in_range
returns-else-top_is_in_range c =
    let w : Written = record { numbers = c.args.numbers.now; recovery = c.args.recovery.now; last_times = c.args.last_times.now; levels = c.args.levels.now } in
    c.if-top_is_in_range.false ∙ sym (top_refuses w (sym c.top_is_in_range.ensures ∙ c.if-top_is_in_range.false))
