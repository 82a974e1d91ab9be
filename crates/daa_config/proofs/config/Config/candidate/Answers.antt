use Rattle.std.proofs.Common.{arith}
use Rattle.daa_config.proofs.CandidateLemmas.{hold_first, begins, whole_ends}
use Rattle.daa_config.proofs.config.Config.candidate.Goals as goal

pub returns-then-index-start-clause-value : goal.returns-then-index-start-clause-value
returns-then-index-start-clause-value c = hold_first c.args.self.now c.args.index (omega arith)

pub candidate_in-requires : goal.candidate_in-requires
candidate_in-requires c = omega (arith, (begins c.args.self.now).speed)

pub candidate_in-requires-then-index-start-3 : goal.candidate_in-requires-then-index-start-3
candidate_in-requires-then-index-start-3 c = omega (arith, (begins c.args.self.now).climb)

pub candidate_in-requires-then-index-start-4 : goal.candidate_in-requires-then-index-start-4
candidate_in-requires-then-index-start-4 c = omega (arith, (begins c.args.self.now).height)

pub candidate_in-requires-2 : goal.candidate_in-requires-2
candidate_in-requires-2 c = omega (arith, whole_ends c.args.self.now)
