use Rattle.std.proofs.Common.{map, string_bytes}
use Rattle.clap.specs.Simple.{subcommand_rows_of}
use Rattle.daa_words.specs.Order.{meaning}
use Rattle.daa_words.proofs.TakenWords.{read_in_range}
use Rattle.daa_words.proofs.reading.read_words.Goals as goal

pub returns-in-Some-clause-in_range : goal.returns-in-Some-clause-in_range
returns-in-Some-clause-in_range c =
    let taken = c.in_ok-matches.ensures.taken in
    read_in_range (map string_bytes c.args.words.now) (meaning c.in-Some.order) (subcommand_rows_of c.in_ok-matches.matches) taken.0 taken.1 c.in-Some.ensures
