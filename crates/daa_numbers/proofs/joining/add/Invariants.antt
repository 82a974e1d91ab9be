use Rattle.daa_numbers.proofs.JoinLemmas.{JoinedBelow}
use Rattle.daa_numbers.proofs.joining.add.Given as goal

-- the masks so far are joined, and the others are as they were
abbrev pub invariant-loop-index : goal.invariant-loop-index
invariant-loop-index l = JoinedBelow l.index l.initial.masks l.more l.masks
