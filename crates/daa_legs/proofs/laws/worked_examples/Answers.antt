use Rattle.std.proofs.Common.{refl}
use Rattle.daa_legs.specs.Turn.{turned}
use Rattle.daa_legs.proofs.laws.worked_examples.Goals as goal

pub returns : goal.returns
unfolding turned
returns c = record { right_at_180 = refl; right_before = refl; left_past = refl; arrives = refl; left_through_north = refl; aged = refl }
