use Rattle.std.proofs.Common.{refl}
use Rattle.clap.proofs.OnLiterals.{clap_on_literals}
use Rattle.daa_words.specs.Command.{daidalus}
use Rattle.daa_words.specs.Order.{asked_by, order_of}
use Rattle.daa_words.proofs.laws.worked_examples.Goals as goal

pub returns : goal.returns
unfolding order_of asked_by daidalus clap_on_literals
returns c = record {
  apart = refl;
  joined = refl;
  any_program_name = refl;
  ended = refl;
  empty_name = refl;
  most_workers = refl;
  most_ahead = refl;
  too_far_ahead = refl;
  no_workers = refl;
  too_many_workers = refl;
  seed_of_a_replay = refl;
  no_words = refl;
  name_alone = refl;
  no_config = refl;
  no_value = refl;
  no_subcommand = refl;
  help = refl;
  help_of_replay = refl;
  version = refl;
  shortened = refl;
  short_name = refl;
  repeated = refl;
  extra = refl;
}
