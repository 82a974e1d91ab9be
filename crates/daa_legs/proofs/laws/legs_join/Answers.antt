use Rattle.std.proofs.Common.{sym}
use Rattle.daa_legs.proofs.Places.{place-next}
use Rattle.daa_legs.proofs.laws.legs_join.Goals as goal

pub returns : goal.returns
returns c own rates candidate k = sym (place-next own rates candidate k)
