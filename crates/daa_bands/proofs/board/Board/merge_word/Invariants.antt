use Rattle.std.proofs.Common.{◌*◌}
use Rattle.daa_config.specs.Packing.{group_size}
use Rattle.daa_bands.proofs.MergeLemmas.{Merged}
use Rattle.daa_bands.proofs.board.Board.merge_word.Given as goal

-- the places before have got their levels, and nothing else has changed
abbrev pub invariant-loop-index : goal.invariant-loop-index
invariant-loop-index l = Merged (group_size * l.group) l.index l.word l.initial.self l.self
