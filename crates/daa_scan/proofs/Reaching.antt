-- What a candidate of the whole list meets is in reach.
use Rattle.daa_config.specs.Settings.{IsAccepted}
use Rattle.daa_state.specs.InRange.{IsPictureInRange}
use Rattle.daa_scan.specs.SceneState.{SceneState}
use Rattle.daa_scan.specs.Reach.{NoneIsMetOutOfReach}
use Rattle.daa_scan.proofs.ListedCandidates.{listed}
use Rattle.daa_scan.proofs.OutOfReach.{met_in_reach}

pub none_is_met_out_of_reach : (s : SceneState) → IsAccepted s.settings → IsPictureInRange s.picture → NoneIsMetOutOfReach s
none_is_met_out_of_reach s a p index at l m = record {
  aircraft = m.aircraft;
  there = m.there;
  reached = met_in_reach s.settings s.picture.own m.candidate m.aircraft a p.own (listed s.settings a index m.candidate m.listed).of l m.meets;
}
