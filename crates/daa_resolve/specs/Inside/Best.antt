-- The nearest of the first places of a kind's list, as the search over them goes.
use Rattle.std.specs.Prelude.{◌<◌, ℕ, ℤ, ◌≤ℤ◌, Option, Some, None}
use Rattle.daa_config.specs.Settings.{Settings}
use Rattle.daa_config.specs.declared.kind.Kind.{Kind}
use Rattle.daa_state.specs.declared.word.Own.{Own}
use Rattle.daa_resolve.specs.Resolution.{IsOpenOnSide}
use Rattle.daa_resolve.specs.Side.{present_of, distance_of}
use Rattle.daa_resolve.specs.declared.side.Side.{Side}

-- the index is that of a value open on the side, and none of the first count places has a nearer one; or none has one
abbrev pub IsBest : (ℕ → ℕ → Type 0) → Settings → Own → Kind → Side → ℕ → Option ℕ → Type 0
IsBest Covered s own kind side count None = (p : ℕ) (v : ℤ) → p < count → IsOpenOnSide Covered s own kind side p v → ⊥
IsBest Covered s own kind side count (Some index) =
    (value : ℤ) × (index < count) × IsOpenOnSide Covered s own kind side index value
    × ((p : ℕ) (v : ℤ) → p < count → IsOpenOnSide Covered s own kind side p v
    → distance_of kind side (present_of kind own) value ≤ℤ distance_of kind side (present_of kind own) v)
