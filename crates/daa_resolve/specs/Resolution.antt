-- The nearest open candidate on a side.
use Rattle.std.specs.Prelude.{◌≡◌, ◌+◌, ℕ, ℤ, ◌≤ℤ◌, Some, slice_get}
use Rattle.daa_config.specs.Candidates.{values_of, start_of}
use Rattle.daa_config.specs.Settings.{Settings}
use Rattle.daa_config.specs.declared.candidate.Resolution.{Resolution}
use Rattle.daa_config.specs.declared.candidate.Resolution.TheVariants.{Keep, To, Nothing}
use Rattle.daa_config.specs.declared.kind.Kind.{Kind}
use Rattle.daa_state.specs.declared.word.Own.{Own}
use Rattle.daa_resolve.specs.Open.{IsOpen}
use Rattle.daa_resolve.specs.Side.{present_of, distance_of, IsOnSide}
use Rattle.daa_resolve.specs.declared.side.Side.{Side}

module _ (Covered : ℕ → ℕ → Type 0) (settings : Settings) (own : Own) (kind : Kind) (side : Side) where
  -- the value at an index of the kind's list is on the side of the present one, and its candidate is open
  pub record IsOpenOnSide (index : ℕ) (value : ℤ) : Type 0 where
    pub value_is : slice_get (values_of kind settings) index ≡ Some value
    pub on_side : IsOnSide kind side (present_of kind own) value
    pub is_open : IsOpen Covered settings (start_of kind settings + index)

  -- the value is open on the side, and no other open value there is nearer
  abbrev pub IsNearest : ℤ → Type 0
  IsNearest value =
      (index : ℕ) × IsOpenOnSide index value
      × ((p : ℕ) (v : ℤ) → IsOpenOnSide p v → distance_of kind side (present_of kind own) value ≤ℤ distance_of kind side (present_of kind own) v)

  -- keep if Hold, the candidate at index 0, is open; else the nearest value, or nothing if none is
  abbrev pub IsResolution : Resolution → Type 0
  IsResolution Keep = IsOpen Covered settings 0
  IsResolution (To value) = (IsOpen Covered settings 0 → ⊥) × IsNearest value
  IsResolution Nothing = (IsOpen Covered settings 0 → ⊥) × ((p : ℕ) (v : ℤ) → IsOpenOnSide p v → ⊥)
