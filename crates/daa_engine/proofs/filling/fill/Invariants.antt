use Rattle.std.proofs.Common.{◌≡◌, length}
use Rattle.daa_bands.specs.Board.{IsBoardOf}
use Rattle.daa_engine.proofs.Covered.{CoveredBelow, scene_of}
use Rattle.daa_engine.proofs.filling.fill.Given as goal

-- the masks have the levels at which some aircraft so far meets a candidate
abbrev pub invariant-loop-place : goal.invariant-loop-place
invariant-loop-place l = record {
  board : IsBoardOf (CoveredBelow (scene_of l.config l.picture) l.place) l.config l.masks;
  room : length l.masks ≡ 2048;
}
