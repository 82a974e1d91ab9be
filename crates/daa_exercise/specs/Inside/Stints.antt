-- The parts of an exercise that workers count.
use Rattle.std.specs.Prelude.{ℕ, ◌-◌, ◌<◌}
use Rattle.std.specs.List.{All}
use Rattle.daa_config.specs.Settings.{Settings}
use Rattle.daa_exercise.specs.declared.clerk.Clerk.{Clerk}
use Rattle.daa_exercise.specs.declared.clerk.Stint.{Stint}
use Rattle.daa_exercise.specs.Inside.Counting.{AreCounted}
use Rattle.daa_exercise.specs.Outputs.{outputs_of}

-- the moments of a seed from one time up to another are counted
pub record IsStint (settings : Settings) (seed : ℕ) (part : Stint) : Type 0 where
  pub some : part.from < part.upto
  pub counted : AreCounted settings (outputs_of seed) part.from (part.upto - part.from) part.counts

-- so are those of each of a clerk's parts
abbrev pub HasStints : Settings → ℕ → Clerk → Type 0
HasStints settings seed clerk = All (IsStint settings seed) clerk.parts.items
