use Rattle.std.proofs.Common.{refl}
use Rattle.clap.proofs.OnLiterals.{clap_on_literals}
use Rattle.daa_words.specs.Command.{daidalus}
use Rattle.daa_words.specs.Order.{asked_by, order_of}
use Rattle.daa_words.proofs.laws.worked_judgements.Goals as goal

pub returns : goal.returns
unfolding order_of asked_by daidalus clap_on_literals
returns c = record {
  apart = refl;
  joined = refl;
  no_states = refl;
  no_config = refl;
  ahead = refl;
  states_of_a_replay = refl;
}
