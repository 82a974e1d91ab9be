use Rattle.std.proofs.Common.{◌≡◌, ◌≤◌, ◌-◌, length}
use Rattle.std.specs.List.{All}
use Rattle.daa_exercise.specs.Inside.Counting.{AreCounted}
use Rattle.daa_exercise.specs.Inside.Stints.{HasStints}
use Rattle.daa_exercise.specs.Outputs.{outputs_of}
use Rattle.daa_exercise.proofs.beside.gather.Given as goal

-- the moments from a time on are counted
abbrev pub invariant-loop-left : goal.invariant-loop-left
invariant-loop-left g l = record {
  within : l.left ≤ l.moments;
  counted : AreCounted l.config (outputs_of l.seed) l.left (l.moments - l.left) l.counts;
  parts : All (HasStints l.config l.seed) l.clerks;
  same_size : length l.clerks ≡ length l.fn.clerks;
}

abbrev pub decreases-loop-left : goal.decreases-loop-left
decreases-loop-left g l = l.left
