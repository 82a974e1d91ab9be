use Rattle.std.proofs.Common.{◌≡◌, take}
use Rattle.std.specs.List.{fold}
use Rattle.daa_numbers.specs.Boards.{sum_with}
use Rattle.daa_numbers.proofs.boards.sum_of.Given as goal

-- the sum of the masks so far
abbrev pub invariant-loop-mask : goal.invariant-loop-mask
invariant-loop-mask l = l.sum ≡ fold sum_with 1 (take l.mask-index l.masks)
