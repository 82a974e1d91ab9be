use Rattle.std.proofs.Common.{refl}
use lib.Count.{count_leading_zeros}
use Rattle.daa_bands.specs.Walk.{shown_of}
use Rattle.daa_bands.proofs.ExampleLemmas.{joined, one_value, split, left_out}
use Rattle.daa_bands.proofs.MaskLemmas.{greatest_shown}
use Rattle.daa_bands.proofs.laws.worked_examples.Goals as goal

pub returns : goal.returns
unfolding shown_of count_leading_zeros
returns c = record {
  joined = joined;
  one_value = one_value;
  split = split;
  left_out = left_out;
  greatest = greatest_shown 5;
  packed = refl;
}
