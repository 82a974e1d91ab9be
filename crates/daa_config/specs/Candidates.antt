-- The candidates of a configuration.
use Rattle.std.specs.Prelude.{◌≡◌, ℕ, ◌+◌, ◌-◌, ◌<◌, ℤ, pos, ◌+ℤ◌, ◌*ℤ◌, ◌≤ℤ◌, ◌<ℤ◌, List, [], ◌∷◌, length, map, slice_get, Some}
use Rattle.std.specs.List.{flat_map, range_with_len}
use Rattle.daa_fixed.specs.Size.{IsFrom}
use Rattle.daa_config.specs.declared.candidate.Candidate.{Candidate}
use Rattle.daa_config.specs.declared.candidate.Candidate.TheVariants.{Hold, Track as ToTrack, GroundSpeed as ToSpeed, VerticalSpeed as ToClimb, Altitude as ToHeight}
use Rattle.daa_config.specs.declared.kind.Kind.{Kind}
use Rattle.daa_config.specs.declared.kind.Kind.TheVariants.{Track, GroundSpeed, VerticalSpeed, Altitude}
use Rattle.daa_config.specs.declared.numbers.Grid.{Grid}
use Rattle.daa_config.specs.Numbers.{count_of}
use Rattle.daa_config.specs.Settings.{Settings}

-- the grid of a kind; tracks are the multiples of their step below a full turn
unfoldable pub grid_of : Kind → Settings → Grid
grid_of Track settings = record { min = pos 0; max = pos 359; step = settings.numbers.track_step; rate = settings.numbers.turn_rate }
grid_of GroundSpeed settings = settings.numbers.gs
grid_of VerticalSpeed settings = settings.numbers.vs
grid_of Altitude settings = settings.numbers.alt

-- the rising list of values of a kind: min, min + step, .., as many as its grid has
unfoldable pub values_of : Kind → Settings → List ℤ
values_of kind settings =
    map (λ i. (grid_of kind settings).min +ℤ pos i *ℤ (grid_of kind settings).step) (range_with_len 0 (count_of (grid_of kind settings)))

-- the least value of a kind, which is the first
unfoldable pub least_of : Kind → Settings → ℤ
least_of kind settings = (grid_of kind settings).min

-- the greatest value of a kind, which is the last
unfoldable pub greatest_of : Kind → Settings → ℤ
greatest_of kind settings = (grid_of kind settings).min +ℤ pos (count_of (grid_of kind settings) - 1) *ℤ (grid_of kind settings).step

-- the values are min and each further step, none of them above max; the next would be above it
pub record AreStepsUpTo (g : Grid) (values : List ℤ) : Type 0 where
  pub each : (i : ℕ) → i < length values → slice_get values i ≡ Some (g.min +ℤ pos i *ℤ g.step)
  pub within : (i : ℕ) → i < length values → (g.min +ℤ pos i *ℤ g.step) ≤ℤ g.max
  pub over : g.max <ℤ (g.min +ℤ pos (length values) *ℤ g.step)

-- ---- the whole list

-- the candidate of a kind that goes to a value
abbrev pub candidate_to : Kind → ℤ → Candidate
candidate_to Track c = ToTrack c
candidate_to GroundSpeed g = ToSpeed g
candidate_to VerticalSpeed w = ToClimb w
candidate_to Altitude a = ToHeight a

-- Hold, then those to tracks, ground speeds, vertical speeds and altitudes
unfoldable pub candidates_of : Settings → List Candidate
candidates_of settings = Hold ∷ flat_map (λ kind. map (candidate_to kind) (values_of kind settings)) (Track ∷ GroundSpeed ∷ VerticalSpeed ∷ Altitude ∷ [])

-- where the candidates of a kind begin in the whole list
unfoldable pub start_of : Kind → Settings → ℕ
start_of Track settings = 1
start_of GroundSpeed settings = 1 + length (values_of Track settings)
start_of VerticalSpeed settings = 1 + length (values_of Track settings) + length (values_of GroundSpeed settings)
start_of Altitude settings = 1 + length (values_of Track settings) + length (values_of GroundSpeed settings) + length (values_of VerticalSpeed settings)

-- a candidate from the least to the greatest value of its kind
abbrev pub IsCandidateOf : Settings → Candidate → Type 0
IsCandidateOf settings Hold = Unit {0}
IsCandidateOf settings (ToTrack c) = IsFrom (least_of Track settings) (greatest_of Track settings) c
IsCandidateOf settings (ToSpeed g) = IsFrom (least_of GroundSpeed settings) (greatest_of GroundSpeed settings) g
IsCandidateOf settings (ToClimb w) = IsFrom (least_of VerticalSpeed settings) (greatest_of VerticalSpeed settings) w
IsCandidateOf settings (ToHeight a) = IsFrom (least_of Altitude settings) (greatest_of Altitude settings) a
