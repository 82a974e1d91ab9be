-- The kinds of which some candidate may meet an aircraft.
use Rattle.std.specs.Prelude.{◌≡◌, ℤ, false}
use Rattle.daa_config.specs.declared.kind.Kind.{Kind}
use Rattle.daa_config.specs.declared.level.Level.{Level}
use Rattle.daa_config.specs.Candidates.{candidate_to}
use Rattle.daa_config.specs.Settings.{Settings}
use Rattle.daa_state.specs.declared.word.Own.{Own}
use Rattle.daa_state.specs.declared.word.Traffic.{Traffic}
use Rattle.daa_legs.specs.Meeting.{MeetsWithin}
use Rattle.daa_scan.specs.declared.needs.Needs.{Needs}
use Rattle.daa_scan.specs.Trunks.{is_needed}

-- a kind that the second does not need, the first does not need either
abbrev pub NeedsMore : Needs → Needs → Type 0
NeedsMore first second = (kind : Kind) → is_needed second kind ≡ false → is_needed first kind ≡ false

module _ (settings : Settings) (own : Own) (aircraft : Traffic) where
  -- no candidate of a kind that is not needed meets the aircraft at the level
  abbrev pub IsIdleAt : Level → Needs → Type 0
  IsIdleAt level needs = (kind : Kind) → is_needed needs kind ≡ false → (z : ℤ) → ¬ MeetsWithin settings own (candidate_to kind z) aircraft level.volume level.lookahead
