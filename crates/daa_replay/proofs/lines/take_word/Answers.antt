use Rattle.std.proofs.Common.{sym, arith}
use Rattle.daa_state.proofs.WordLaws.{word_of-long}
use Rattle.daa_replay.proofs.lines.take_word.Goals as goal

pub returns-in-Long-clause-word : goal.returns-in-Long-clause-word
returns-in-Long-clause-word c = sym (word_of-long c.args.format c.args.lines.now.line (omega (arith, c.in-Long.ensures.handed.1)))
