use Rattle.daa_bands.proofs.MergeLemmas.{merge_more}
use Rattle.daa_bands.proofs.board.Board.merge_word.Goals as goal

pub loop-index-preserved : goal.loop-index-preserved
loop-index-preserved c =
    merge_more _ _ _ c.mask_at.result c.args.self.now c.loop-index.self c.mark.new.self c.loop-index.invariant c.mask_at.ensures c.mark.ensures.marked c.mark.ensures.others c.mark.ensures.same_size
