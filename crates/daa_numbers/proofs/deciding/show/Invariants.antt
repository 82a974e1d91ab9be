use Rattle.std.proofs.Common.{◌≡◌, drop, length}
use Rattle.daa_bands.specs.Board.{mask_levels}
use Rattle.daa_numbers.specs.Filled.{AreLevelsOn}
use Rattle.daa_numbers.proofs.deciding.show.Given as goal

-- the levels so far are filled in, and the places past them are as they were
abbrev pub invariant-loop-index : goal.invariant-loop-index
invariant-loop-index l = record {
  same_size : length l.levels ≡ length l.initial.levels;
  past : drop l.index l.levels ≡ drop l.index l.initial.levels;
  shown : AreLevelsOn l.board mask_levels l.index l.levels;
}
