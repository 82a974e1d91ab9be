use Rattle.std.proofs.Common.{◌≡◌, ◌-◌, cond}
use Rattle.daa_recovery.specs.Inside.Sides.{IsSide}
use Rattle.daa_recovery.proofs.outlook.Outlook.walk.Given as goal

-- walked so far
abbrev pub invariant-loop-side : goal.invariant-loop-side
invariant-loop-side l = record {
  side : IsSide l.self l.side;
  lead : l.side.lead ≡ l.fn.side.lead;
}

-- no leg is left once one comes into a cylinder
abbrev pub decreases-loop-side : goal.decreases-loop-side
decreases-loop-side l = cond l.side.struck 0 (l.fn.upto - l.side.walked)
