-- What a scene keeps of its configuration and its moment.
use Rattle.std.specs.Prelude.{◌≡◌, ℕ, List}
use Rattle.daa_config.specs.declared.candidate.Candidate.TheVariants.{Hold}
use Rattle.daa_config.specs.Settings.{IsAccepted, rates_of}
use Rattle.daa_state.specs.InRange.{IsPictureInRange}
use Rattle.daa_legs.specs.declared.own_leg.OwnLeg.{OwnLeg}
use Rattle.daa_legs.specs.OwnLeg.{own_leg, IsOwnLegInRange}
use Rattle.daa_scan.specs.Packed.{places_in_reach}
use Rattle.daa_scan.specs.SceneState.{SceneState}
use Rattle.daa_scan.specs.Trunks.{AreFlightsOf}
use Rattle.daa_scan.specs.Inside.Trunks.{Shared}
use Rattle.daa_scan.specs.Units.{group_count}

-- its configuration was accepted, its moment is in range, its groups are counted, the aircraft in reach are found, the flights that lead
-- on the sides of each kind and the candidates' branches are kept where they are needed, and so is the first leg of the present flight
pub record IsScene (s : SceneState) (groups : ℕ) (places : List ℕ) (trunks : Shared) (hold : OwnLeg) : Type 0 where
  pub accepted : IsAccepted s.settings
  pub picture : IsPictureInRange s.picture
  pub counted : groups ≡ group_count s.settings
  pub found : places ≡ places_in_reach s
  pub kept : AreFlightsOf s.settings s.picture trunks.needs trunks.trunks trunks.branches
  pub present : hold ≡ own_leg s.picture.own (rates_of s.settings) Hold 0
  pub in_range : IsOwnLegInRange hold
