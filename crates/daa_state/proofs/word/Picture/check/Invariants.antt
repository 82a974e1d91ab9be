use Rattle.std.proofs.Common.{◌≡◌, take, drop}
use Rattle.daa_state.specs.Checked.{fault_from}
use Rattle.daa_state.proofs.TakenLemmas.{AreTakenBelow}
use Rattle.daa_state.proofs.word.Picture.check.Given as goal

-- the aircraft so far are those of the list, and are taken; what is wrong with the others is what is wrong with all
abbrev pub invariant-loop-place : goal.invariant-loop-place
invariant-loop-place l =
    (l.all.items ≡ take l.place l.traffic)
    × AreTakenBelow l.traffic l.place
    × (fault_from l.traffic l.place (drop l.place l.traffic) ≡ fault_from l.traffic 0 l.traffic)
