use Rattle.std.proofs.Common.{◌∙◌, sym}
use Rattle.daa_numbers.proofs.OwnLemmas.{same_own}
use Rattle.daa_numbers.proofs.boards.is_of_own.Goals as goal

pub returns-clause-yes : goal.returns-clause-yes
returns-clause-yes c = λ h. same_own c.args.board.now.own c.args.own.now (sym c.eq.ensures ∙ h)
