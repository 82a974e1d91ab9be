use Rattle.std.proofs.Common.{ℕ, length, subst}
use Rattle.daa_engine.specs.Inside.Merging.{IsMerged}
use Rattle.daa_engine.proofs.MergingLemmas.{merged_board}
use Rattle.daa_engine.proofs.together.merge.Goals as goal

pub returns : goal.returns
returns c =
    let words = c.args.words.now in
    merged_board c.args.scene.now words c.merge_words.new.board c.requires.words c.requires.reach
    (subst (λ (n : ℕ). IsMerged n words (length words) c.merge_words.new.board) c.groups.ensures.value c.merge_words.ensures)
