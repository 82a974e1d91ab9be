use Rattle.daa_last.specs.Inside.Sides.{AreWalks}
use Rattle.daa_last.proofs.Searching.{AreShutBelow}
use Rattle.daa_last.proofs.search.is_some_open.Given as goal

abbrev pub invariant-loop-index : goal.invariant-loop-index
invariant-loop-index l = record {
  walks : AreWalks l.config l.picture l.fn.m l.sides l.walks;
  shut : AreShutBelow l.config l.picture l.fn.kind l.fn.m l.index;
}
