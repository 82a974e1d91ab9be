use Rattle.std.proofs.Common.{◌≡◌, Ok, subst, sym, rules}
use Rattle.std.specs.Prelude.{IfOk}
use Rattle.daa_state.specs.Fault.{Checked}
use Rattle.daa_state.specs.Sure.{IsSureWord}
use Rattle.daa_state.specs.WordOf.{word_of}
use Rattle.daa_state.specs.declared.word.Word.{Word}
use Rattle.daa_state.proofs.SureLaws.{word_of-sure}
use Rattle.daa_numbers.proofs.LineLemmas.{of_early_format}
use Rattle.daa_numbers.proofs.lines.early_word.Goals as goal

pub returns-clause-sure : goal.returns-clause-sure
returns-clause-sure c =
    subst (λ (word : Checked Word). IfOk word IsSureWord) (sym c.in_ok-word.ensures.value) (word_of-sure c.args.line.now c.args.format c.requires.early)
