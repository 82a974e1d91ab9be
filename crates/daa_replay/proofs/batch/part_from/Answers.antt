use Rattle.std.proofs.Common.{subst, sym}
use Rattle.daa_replay.specs.declared.lane.Lane.{Lane}
use Rattle.daa_replay.specs.Inside.Batch.{IsFilled}
use Rattle.daa_replay.proofs.batch.part_from.Goals as goal

pub returns-in-Some-clause-texts : goal.returns-in-Some-clause-texts
returns-in-Some-clause-texts c settings piece all =
    c.in-Some.ensures.texts settings piece (subst (λ (x : Lane). IsFilled settings piece x) (sym c.index-lanes-place.is)
    (all c.loop-place.place c.index-lanes-place.result c.loop-place-test.true))
