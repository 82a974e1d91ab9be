use Rattle.std.specs.Prelude.{slice_index}
use Rattle.daa_fixed.specs.Mask.{HasLevel}
use Rattle.daa_bands.specs.Board.{mask_levels}
use Rattle.daa_config.proofs.GreatestLemmas.{greatest_once}
use Rattle.daa_bands.proofs.MaskLemmas.{greatest_shown}
use Rattle.daa_bands.proofs.walk.shown_level.Goals as goal

pub returns : goal.returns
returns c = greatest_once (HasLevel (slice_index c.args.board.now c.args.index)) mask_levels _ _ c.shown.ensures (greatest_shown _)
