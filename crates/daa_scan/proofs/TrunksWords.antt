-- The flights that lead on the two sides of each kind, and the branches of the candidates, kept.
use Rattle.std.specs.Prelude.{◌≡◌, ℕ, ℤ, ◌<◌, Bool, IsTrue, List, length}
use Rattle.daa_config.specs.declared.kind.Kind.{Kind}
use Rattle.daa_config.specs.Candidates.{candidate_to}
use Rattle.daa_config.specs.Settings.{Settings, rates_of}
use Rattle.daa_state.specs.declared.word.Own.{Own}
use Rattle.daa_legs.specs.declared.own_leg.OwnLeg.{OwnLeg}
use Rattle.daa_legs.specs.Branch.{lead_of}
use Rattle.daa_legs.specs.Trunk.{AreLegsOf}
use Rattle.daa_scan.specs.Trunks.{trunk_index, trunk_in, is_needed}
use Rattle.daa_scan.specs.declared.needs.Needs.{Needs}

-- those of the first places lead, for so many seconds, if they are of a kind that is needed
pub record AreLeadsBelow (settings : Settings) (own : Own) (needs : Needs) (index most : ℕ) (trunks : List (List OwnLeg)) : Type 0 where
  pub room : length trunks ≡ 8
  pub each : (kind : Kind) (upper : Bool) (z : ℤ) → trunk_index kind upper < index → IsTrue (is_needed needs kind)
      → AreLegsOf own (rates_of settings) (lead_of own (candidate_to kind z) upper) most (trunk_in trunks kind upper)
