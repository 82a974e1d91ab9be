use Rattle.daa_bands.specs.Board.{HasLevelOn}
use Rattle.daa_resolve.specs.Inside.Best.{IsBest}
use Rattle.daa_resolve.proofs.resolution.best_index.Given as goal

abbrev pub invariant-loop-index : goal.invariant-loop-index
invariant-loop-index l = IsBest (HasLevelOn l.board) l.config l.own l.kind l.side l.index l.best
