-- The bands of the values of a kind.
use Rattle.std.specs.Prelude.{◌≡◌, ◌+◌, ◌<◌, ℕ, List, length, slice_index}
use Rattle.std.specs.List.{zip}
use Rattle.daa_config.specs.Candidates.{values_of, start_of}
use Rattle.daa_fixed.specs.Mask.{IsGreatestLevel}
use Rattle.daa_config.specs.Settings.{Settings}
use Rattle.daa_config.specs.declared.kind.Kind.{Kind}
use Rattle.daa_bands.specs.Band.{AreBands}
use Rattle.daa_bands.specs.declared.band.Band.{Band}

-- each value of the kind has its shown level: the greatest, up to top, at which its candidate is covered, or 0
pub record AreShown (Covered : ℕ → ℕ → Type 0) (top : ℕ) (settings : Settings) (kind : Kind) (levels : List ℕ) : Type 0 where
  pub each : length levels ≡ length (values_of kind settings)
  pub greatest : (i : ℕ) → i < length levels → IsGreatestLevel (Covered (start_of kind settings + i)) top (slice_index levels i)

-- the bands of the kind's rising values with their shown levels
pub record AreKindBands (Covered : ℕ → ℕ → Type 0) (top : ℕ) (settings : Settings) (kind : Kind) (bands : List Band) : Type 0 where
  pub levels : List ℕ
  pub shown : AreShown Covered top settings kind levels
  pub are : AreBands (zip (values_of kind settings) levels) bands
