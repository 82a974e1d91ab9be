use Rattle.daa_margin.proofs.Truth.{both_parts}
use Rattle.daa_margin.proofs.laws.no_true_violation_is_missed.Goals as goal

pub returns : goal.returns
returns c truth reported volume bounds n d n0 d1 within h = both_parts truth reported volume bounds n d n0 d1 within h
