use Rattle.std.proofs.Common.{◌≡◌, ◌-◌, ◌≤◌, ◌⊎◌, List, ℕ}
use Rattle.daa_config.specs.Candidates.{start_of}
use Rattle.daa_scan.specs.Inside.Marking.{AreTrailsOf, AreMarkedUpto}
use Rattle.daa_scan.specs.Inside.Rounds.{settings_in}
use Rattle.daa_scan.proofs.marking.mark_kind.Given as goal

-- the candidates so far have the level, and the sides were walked so far
abbrev pub invariant-loop-at : goal.invariant-loop-at
invariant-loop-at l = record {
  trails : AreTrailsOf l.round l.fn.kind l.trails;
  masks : (before : List ℕ) → AreMarkedUpto l.round l.first (start_of l.fn.kind (settings_in l.round)) before l.initial.masks → AreMarkedUpto l.round l.first l.at before l.masks;
  from : l.from ≤ l.at;
  near : (l.at ≤ l.upto) ⊎ (l.at ≡ l.from);
}

abbrev pub decreases-loop-at : goal.decreases-loop-at
decreases-loop-at l = l.upto - l.at

-- the same in the midst of those that are gone through together
abbrev pub invariant-loop-index : goal.invariant-loop-index
invariant-loop-index l = record {
  trails : AreTrailsOf l.round l.fn.kind l.trails;
  masks : (before : List ℕ) → AreMarkedUpto l.round l.first l.at before l.initial.masks → AreMarkedUpto l.round l.first l.index before l.masks;
  near : l.index ≤ l.end;
}
