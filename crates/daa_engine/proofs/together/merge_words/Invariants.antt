use Rattle.daa_engine.specs.Inside.Merging.{IsMerged}
use Rattle.daa_engine.proofs.together.merge_words.Given as goal

-- the board has what the words so far say
abbrev pub invariant-loop-unit : goal.invariant-loop-unit
invariant-loop-unit l = IsMerged l.groups l.words l.unit l.board
