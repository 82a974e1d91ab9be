use Rattle.daa_legs.proofs.StateRanges.{own_track}
use Rattle.daa_legs.proofs.Arriving.{turned-arrives}
use Rattle.daa_legs.specs.Motion.{track_on}
use Rattle.daa_legs.proofs.laws.turns_arrive.Goals as goal

pub returns : goal.returns
unfolding track_on
returns c own rates d k o h most = turned-arrives own.trk d _ (own_track o) h most
