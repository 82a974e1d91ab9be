use Rattle.std.proofs.Common.{refl}
use Rattle.clap.proofs.OnLiterals.{clap_on_literals}
use Rattle.daa_words.specs.Command.{daidalus}
use Rattle.daa_words.specs.Order.{asked_by, order_of}
use Rattle.daa_words.proofs.laws.worked_exercises.Goals as goal

pub returns : goal.returns
unfolding order_of asked_by daidalus clap_on_literals
returns c = record {
  exercise = refl;
  greatest = refl;
  sign_and_zeros = refl;
  zero_with_a_minus = refl;
  no_seed = refl;
  too_great_a_seed = refl;
  negative_seed = refl;
  no_moments = refl;
  too_many_moments = refl;
}
