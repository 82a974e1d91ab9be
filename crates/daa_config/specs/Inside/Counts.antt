-- How many candidates each kind has.
use Rattle.std.specs.Prelude.{◌≡◌, ℕ}
use Rattle.daa_config.specs.declared.config.CandidateCounts.{CandidateCounts}
use Rattle.daa_config.specs.declared.kind.Kind.{Kind}
use Rattle.daa_config.specs.declared.kind.Kind.TheVariants.{Track, GroundSpeed, VerticalSpeed, Altitude}
use Rattle.daa_config.specs.declared.numbers.Numbers.{Numbers}
use Rattle.daa_config.specs.Candidates.{grid_of}
use Rattle.daa_config.specs.Numbers.{count_of}
use Rattle.daa_config.specs.Settings.{Settings, IsAccepted}

-- that of a kind
abbrev pub count_in : CandidateCounts → Kind → ℕ
count_in counts Track = counts.tracks
count_in counts GroundSpeed = counts.speeds
count_in counts VerticalSpeed = counts.climbs
count_in counts Altitude = counts.heights

-- they are the sizes of the kinds' grids in every configuration of these numbers
abbrev pub AreCounts : Numbers → CandidateCounts → Type 0
AreCounts numbers counts = (settings : Settings) → settings.numbers ≡ numbers → (kind : Kind) → count_in counts kind ≡ count_of (grid_of kind settings)

-- some accepted configuration has these numbers
abbrev pub AreOfAccepted : Numbers → Type 0
AreOfAccepted numbers = (settings : Settings) × IsAccepted settings × (settings.numbers ≡ numbers)
