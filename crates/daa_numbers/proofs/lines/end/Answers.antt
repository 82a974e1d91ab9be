use Rattle.daa_numbers.proofs.LineLemmas.{ends}
use Rattle.daa_numbers.proofs.lines.end.Goals as goal

pub returns-clause-taken : goal.returns-clause-taken
returns-clause-taken c = ends c.args.lines.now c.if-lines-eq0.false c.if-lines-eq0-2.false
