use Rattle.daa_schedule.specs.Core.{state_of}
use Rattle.daa_schedule.proofs.Fields.{hand_read}
use Rattle.daa_schedule.proofs.core_state.Core.hand.Goals as goal

pub returns-clause-units : goal.returns-clause-units
returns-clause-units c = hand_read (state_of c.self.inside) c.args.self.now c.args.worker c.index.result.now c.self.invariant c.self.view_is c.requires c.index.ensures
