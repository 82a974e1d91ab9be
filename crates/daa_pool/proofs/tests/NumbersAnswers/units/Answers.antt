use Rattle.std.proofs.Common.{sym}
use Rattle.std.proofs.lemmas.List.FromFn.{length-range_with_len}
use Rattle.daa_pool.proofs.tests.NumbersAnswers.units.Goals as goal

pub returns : goal.returns
returns c = sym (length-range_with_len 11 c.args.self.now.units)
