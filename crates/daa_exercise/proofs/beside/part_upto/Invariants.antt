use Rattle.std.proofs.Common.{◌≡◌, length}
use Rattle.std.specs.List.{All}
use Rattle.daa_exercise.specs.Inside.Stints.{HasStints}
use Rattle.daa_exercise.proofs.beside.part_upto.Given as goal

-- what the clerks have are parts
abbrev pub invariant-loop-place : goal.invariant-loop-place
invariant-loop-place g l = record {
  parts : All (HasStints l.config l.seed) l.clerks;
  same_size : length l.clerks ≡ length l.initial.clerks;
}
