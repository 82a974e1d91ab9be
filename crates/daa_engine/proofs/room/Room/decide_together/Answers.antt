use Rattle.std.proofs.Common.{◌∙◌, ap, length}
use Rattle.daa_engine.proofs.room.Room.decide_together.Goals as goal

pub fill_together-requires-clause-flights : goal.fill_together-requires-clause-flights
fill_together-requires-clause-flights g c κs within =
    (ap length c.as_mut_slice-trunks.ensures.value ∙ c.self.invariant.0, ap length c.as_mut_slice-branches.ensures.value ∙ c.self.invariant.1)
