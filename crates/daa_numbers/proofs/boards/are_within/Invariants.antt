use Rattle.std.proofs.Common.{◌<◌, ◌≤◌, ℕ}
use Rattle.std.specs.Prelude.{slice_index}
use Rattle.daa_numbers.specs.Boards.{greatest_mask}
use Rattle.daa_numbers.proofs.boards.are_within.Given as goal

-- the masks so far are within
abbrev pub invariant-loop-index : goal.invariant-loop-index
invariant-loop-index l = (i : ℕ) → i < l.index → slice_index l.masks i ≤ greatest_mask l.candidates l.bits i
