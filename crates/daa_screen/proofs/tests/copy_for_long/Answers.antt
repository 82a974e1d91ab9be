use Rattle.daa_screen.proofs.LatestEnds.{looks}
use Rattle.daa_screen.proofs.tests.copy_for_long.Goals as goal

pub enter_as-requires : goal.enter_as-requires
enter_as-requires c = looks _ _
