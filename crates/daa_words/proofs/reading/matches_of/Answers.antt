use Rattle.std.proofs.Common.{◌≡◌, ◌∙◌, ap, map, string_bytes, sym}
use Rattle.clap.specs.Words.{App, app_of, is_simple}
use Rattle.clap.specs.Faults.{is_simple_and_free, fault_of}
use Rattle.clap.specs.Simple.{subcommand_of}
use Rattle.daa_words.specs.declared.fault.WordsFault.TheVariants.{NotTaken}
use Rattle.daa_words.proofs.WordsLemmas.{daidalus_is_stated, daidalus_is_simple, refuses}
use Rattle.daa_words.proofs.reading.matches_of.Goals as goal

pub returns-in-Ok-clause-taken : goal.returns-in-Ok-clause-taken
returns-in-Ok-clause-taken c =
    let is = c.in_ok-command.ensures in
    let words = map string_bytes c.args.words.now in (
      ap (λ (a : App). fault_of a words) (sym is) ∙ c.in-Ok.ensures.kinds (ap is_simple_and_free is ∙ daidalus_is_stated),
      (c.in-Ok.ensures.matches (ap is_simple is ∙ daidalus_is_simple)).1 ∙ ap (λ (a : App). subcommand_of a words) is,
    )

pub returns-in-Err-clause-refused : goal.returns-in-Err-clause-refused
returns-in-Err-clause-refused c e taken =
    let is = c.in_ok-command.ensures in
    let words = map string_bytes c.args.words.now in
    let not_taken : c.fault_by.result ≡ NotTaken = cc in
    refuses (fault_of (app_of c.in_ok-command.command) words) c.in-Err.error
    (c.in-Err.ensures.kinds (ap is_simple_and_free is ∙ daidalus_is_stated))
    (c.fault_by.ensures not_taken)
    (ap (λ (a : App). fault_of a words) is ∙ taken)
