use Rattle.std.proofs.Common.{◌≡◌}
use Rattle.daa_legs.specs.Trunk.{AreLegsOf}
use Rattle.daa_legs.specs.OwnLeg.{place_on}
use Rattle.daa_legs.proofs.trunk.keep_way.Given as goal

-- the legs before leg k are kept, and the place is that of leg k
abbrev pub invariant-loop-k : goal.invariant-loop-k
invariant-loop-k l = record {
  at : l.place ≡ place_on l.own l.rates l.candidate l.k;
  kept : AreLegsOf l.own l.rates l.candidate l.k l.legs;
}
