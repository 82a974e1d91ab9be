use Rattle.std.proofs.Common.{rules}
use Rattle.daa_config.proofs.RangeLemmas.{all_stepped}
use Rattle.daa_config.proofs.accepting.test.Goals as goal

pub are_too_many-requires-clause-gs : goal.are_too_many-requires-clause-gs
are_too_many-requires-clause-gs c =
    (all_stepped (record { numbers = c.args.numbers.now; recovery = c.args.recovery.now; last_times = c.args.last_times.now; levels = c.args.levels.now }) (search rules)).gs

pub are_too_many-requires-clause-vs : goal.are_too_many-requires-clause-vs
are_too_many-requires-clause-vs c =
    (all_stepped (record { numbers = c.args.numbers.now; recovery = c.args.recovery.now; last_times = c.args.last_times.now; levels = c.args.levels.now }) (search rules)).vs

pub are_too_many-requires-clause-alt : goal.are_too_many-requires-clause-alt
are_too_many-requires-clause-alt c =
    (all_stepped (record { numbers = c.args.numbers.now; recovery = c.args.recovery.now; last_times = c.args.last_times.now; levels = c.args.levels.now }) (search rules)).alt
