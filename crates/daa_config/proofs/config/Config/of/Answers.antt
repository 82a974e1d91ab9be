use Rattle.std.proofs.Common.{Bool, List, Option, option_map, sym, subst}
use Rattle.daa_config.specs.Level.{cylinder_of, asks_nearest, is_set}
use Rattle.daa_taumod.specs.declared.Volume.{Volume}
use Rattle.daa_config.specs.declared.level.Level.{Level}
use Rattle.daa_config.specs.Settings.{IsAccepted}
use Rattle.daa_config.specs.ConfigOf.{Written}
use Rattle.daa_config.proofs.RangeLemmas.{accepted, few_counted, levels_pass, recovery_passes}
use Rattle.daa_config.proofs.config.Config.of.Goals as goal

pub all_in_units-levels-requires-clause-few : goal.all_in_units-levels-requires-clause-few
all_in_units-levels-requires-clause-few c =
    few_counted c.args.numbers.now.resolve c.args.levels.now c.in_ok-test.ensures.counted

pub all_in_units-levels-requires-clause-fit : goal.all_in_units-levels-requires-clause-fit
all_in_units-levels-requires-clause-fit c =
    levels_pass (record { numbers = c.args.numbers.now; recovery = c.args.recovery.now; last_times = c.args.last_times.now; levels = c.args.levels.now }) c.in_ok-test.ensures.fit

pub cylinder_in_units-recovery-requires : goal.cylinder_in_units-recovery-requires
cylinder_in_units-recovery-requires c =
    recovery_passes (record { numbers = c.args.numbers.now; recovery = c.args.recovery.now; last_times = c.args.last_times.now; levels = c.args.levels.now }) c.in_ok-test.ensures.fit

pub new-requires : goal.new-requires
new-requires c =
    let n = c.args.numbers.now in
    let w : Written = record { numbers = n; recovery = c.args.recovery.now; last_times = c.args.last_times.now; levels = c.args.levels.now } in
    let e = c.in_ok-test.ensures in
    subst (λ (recovery : Option Volume). IsAccepted
    (record {
      numbers = n;
      recovery = recovery;
      nearest = c.names_nearest-nearest.result;
      last_times = c.asks_last-last_times.result;
      levels = c.all_in_units-levels.result.items;
    }))
    (sym c.cylinder_in_units-recovery.ensures)
    (subst (λ (nearest : Bool). IsAccepted (record {
      numbers = n;
      recovery = option_map cylinder_of c.args.recovery.now;
      nearest = nearest;
      last_times = c.asks_last-last_times.result;
      levels = c.all_in_units-levels.result.items;
    }))
    (sym c.names_nearest-nearest.ensures)
    (subst (λ (last : Bool). IsAccepted (record {
      numbers = n;
      recovery = option_map cylinder_of c.args.recovery.now;
      nearest = asks_nearest c.args.recovery.now;
      last_times = last;
      levels = c.all_in_units-levels.result.items;
    }))
    (sym c.asks_last-last_times.ensures)
    (subst (λ (levels : List Level). IsAccepted
    (record {
      numbers = n;
      recovery = option_map cylinder_of c.args.recovery.now;
      nearest = asks_nearest c.args.recovery.now;
      last_times = is_set c.args.last_times.now;
      levels = levels;
    }))
    (sym c.all_in_units-levels.ensures) (accepted w e.fit e.divides e.counted e.few))))
