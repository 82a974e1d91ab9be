use Rattle.std.proofs.Common.{subst, sym}
use Rattle.daa_exercise.specs.Moments.{begin_of}
use Rattle.daa_exercise.specs.Taken.{IsTaken}
use Rattle.daa_exercise.proofs.MoveLemmas.{moment_is}
use Rattle.daa_exercise.proofs.TakenLemmas.{drawn_taken}
use Rattle.daa_exercise.proofs.laws.drawn_moments_are_taken.Goals as goal

pub returns : goal.returns
returns c output time state lt closed earlier =
    subst (IsTaken state) (sym (moment_is output time)) (drawn_taken output time (begin_of output time) state closed earlier lt)
