use Rattle.daa_lines.proofs.EndingLemmas.{comes-end}
use Rattle.daa_lines.proofs.lines.Lines.end.Goals as goal

pub returns-clause-kept : goal.returns-clause-kept
returns-clause-kept c bytes taken s = rw c.finish.ensures.value (comes-end bytes taken c.args.self.now c.finish.ensures.sized s)
