use Rattle.std.proofs.Common.{◌≡◌, ℕ, ◌<◌, ◌-◌, min, false}
use Rattle.daa_scan.specs.Inside.Rounds.{settings_in, own_in, aircraft_in, IsHitOn}
use Rattle.daa_scan.specs.Inside.Sharing.{IsTrailOf}
use Rattle.daa_scan.proofs.sharing.walk_on.Given as goal

-- no leg so far violates, and the trail is as it was
abbrev pub invariant-loop-walked : goal.invariant-loop-walked
invariant-loop-walked l = record {
  none : (j : ℕ) → j < l.walked → ¬ IsHitOn l.round l.fn.lead j;
  trail : IsTrailOf (settings_in l.round) (own_in l.round) l.fn.lead (aircraft_in l.round) l.round.level.volume l.trail;
  clear : l.trail.hit ≡ false;
  last : l.last ≡ min l.fn.upto l.trail.end;
  end : l.trail.end ≡ l.fn.trail.end;
}

abbrev pub decreases-loop-walked : goal.decreases-loop-walked
decreases-loop-walked l = l.last - l.walked
