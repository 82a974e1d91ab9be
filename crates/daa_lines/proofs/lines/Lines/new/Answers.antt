use Rattle.std.proofs.Common.{[], false, refl}
use Rattle.daa_lines.specs.LinesOf.{stretches_of, lines_of}
use Rattle.daa_lines.specs.ComesFrom.{ComesFrom}
use Rattle.daa_lines.specs.declared.lines.Stage.TheVariants.{Open}
use Rattle.daa_lines.proofs.lines.Lines.new.Goals as goal

nothing_fed : ComesFrom [] [] (record { line = []; stage = Open; ended = false; fed = 0; number = 0 })
unfolding lines_of stretches_of
nothing_fed = record { fed = refl; number = refl; lines = refl; rest = λ _. refl }

pub returns-clause-comes_from : goal.returns-clause-comes_from
returns-clause-comes_from c = rw c.new.ensures nothing_fed
