use Rattle.std.proofs.Common.{arith}
use Rattle.daa_last.proofs.Delays.{held_leg, held_place, held_height}
use Rattle.daa_last.proofs.laws.held_before_it_begins.Goals as goal

pub returns-clause-legs : goal.returns-clause-legs
returns-clause-legs c own rates m candidate k lt = held_leg own rates m candidate k lt

pub returns-clause-place : goal.returns-clause-place
returns-clause-place c own rates m candidate = held_place own rates m candidate m (omega arith)

pub returns-clause-height : goal.returns-clause-height
returns-clause-height c own rates m = held_height own rates m
