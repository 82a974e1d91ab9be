use Rattle.daa_config.proofs.RangeLemmas.{few_counted}
use Rattle.daa_config.proofs.reading.accept.Goals as goal

pub list_levels-requires : goal.list_levels-requires
list_levels-requires c =
    few_counted c.args.found.now.numbers.resolve c.as_slice-levels.result.now c.in_ok-test.ensures.counted
