use Rattle.daa_exercise.specs.Inside.Drawing.{generator_of}
use Rattle.daa_exercise.proofs.MoveLemmas.{first_is}
use Rattle.daa_exercise.proofs.sequence.Sequence.of.Goals as goal

pub invariant_of-result : goal.invariant_of-result
invariant_of-result c = record { drawn = first_is (generator_of c.args.seed) c.of.result c.of.ensures }
