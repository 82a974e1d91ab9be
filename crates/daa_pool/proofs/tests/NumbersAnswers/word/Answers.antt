use Rattle.std.proofs.Common.{arith}
use Rattle.std.proofs.lemmas.List.FromFn.{length-range_with_len, get_or-range_with_len}
use Rattle.daa_pool.proofs.tests.NumbersAnswers.word.Goals as goal

pub returns : goal.returns
returns c = let long = length-range_with_len 11 c.args.self.now.units in
    let word = get_or-range_with_len 11 c.args.self.now.units c.args.unit 0 (omega (arith, c.requires)) in omega arith
