use Rattle.daa_scan.specs.Units.{index_in}
use Rattle.daa_scan.specs.Packed.{entry_at}
use Rattle.daa_scan.proofs.Packs.{IsPackedFrom}
use Rattle.daa_scan.proofs.scene.Scene.word_of_group.Given as goal

abbrev pub invariant-loop-j : goal.invariant-loop-j
invariant-loop-j l = IsPackedFrom (λ i. entry_at l.self l.aircraft (index_in l.group i)) l.j l.word

abbrev pub decreases-loop-j : goal.decreases-loop-j
decreases-loop-j l = l.j
