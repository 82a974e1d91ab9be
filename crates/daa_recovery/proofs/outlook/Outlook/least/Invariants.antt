use Rattle.daa_recovery.specs.Inside.Search.{IsFoundBelow}
use Rattle.daa_recovery.specs.Inside.Sides.{AreSides}
use Rattle.daa_recovery.proofs.outlook.Outlook.least.Given as goal

-- the best of the values so far, and the sides as far as they were walked for them
abbrev pub invariant-loop-index : goal.invariant-loop-index
invariant-loop-index l = record {
  found : IsFoundBelow l.self l.fn.kind l.fn.side l.index l.found;
  sides : AreSides l.self l.fn.kind l.sides;
}
