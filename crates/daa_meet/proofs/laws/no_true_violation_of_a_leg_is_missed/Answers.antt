use Rattle.daa_meet.proofs.Truth.{truth_by}
use Rattle.daa_meet.proofs.laws.no_true_violation_of_a_leg_is_missed.Goals as goal

pub returns : goal.returns
returns c aircraft k leg volume n d n0 d1 v = truth_by aircraft k leg v.truth volume n d n0 d1 v.within v.violates
