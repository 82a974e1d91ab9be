use Rattle.std.proofs.Common.{sym, subst}
use Rattle.daa_engine.specs.Inside.Merging.{IsMerged}
use Rattle.daa_engine.proofs.MergingLemmas.{merged_none, merged_more}
use Rattle.daa_engine.proofs.together.merge_words.Goals as goal

pub loop-unit-init : goal.loop-unit-init
loop-unit-init c = subst (IsMerged c.args.groups c.args.words.now 0) (sym c.requires.clear) (merged_none c.args.groups c.args.words.now 2048)

pub loop-unit-preserved : goal.loop-unit-preserved
loop-unit-preserved c = merged_more c.args.groups c.args.words.now c.loop-unit.unit _ _ c.loop-unit.invariant c.merge_word.ensures
