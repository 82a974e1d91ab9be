use Rattle.daa_judge.proofs.MatchingLemmas.{over_there, stops_at}
use Rattle.daa_judge.proofs.matching.Matching.step.Goals as goal

pub returns-in-Over-clause-steps : goal.returns-in-Over-clause-steps
returns-in-Over-clause-steps g c = (
  stops_at c.in-Over.ended c.args.self.now.line c.stop_at.result c.stop_at.ensures,
  λ most first before rest h. over_there most first _ _ before c.args.self.now h c.in-Over.ended c.args.text.now rest c.stop_at.result c.stop_at.ensures c.requires.some
      c.in-Over.ensures.is,
)
