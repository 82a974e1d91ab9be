use Rattle.daa_taumod.proofs.ClosestApproach.{violates_by_model}
use Rattle.daa_taumod.proofs.violation.models_are_nested.Goals as goal

pub returns : goal.returns
returns c inner outer leg volume n d order d1 h = violates_by_model inner outer leg volume n d order d1 h
