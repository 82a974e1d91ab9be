-- A moment in which a recovery is looked for.
use Rattle.std.specs.Prelude.{ℕ, ◌≡◌, ◌≤◌, ◌<◌, pos, ◌≤ℤ◌}
use Rattle.daa_taumod.specs.declared.Volume.{Volume}
use Rattle.daa_config.specs.declared.level.Level.{Level}
use Rattle.daa_config.specs.Settings.{Settings, IsLevelAt}
use Rattle.daa_state.specs.declared.word.Picture.{Picture}

-- level l closes what violates it: it is one of the levels from `resolve` up
pub record Closes (settings : Settings) (l : ℕ) (level : Level) : Type 0 where
  pub there : IsLevelAt settings l level
  pub from : settings.numbers.resolve ≤ℤ pos l

-- some level that closes is violated on a leg before its lookahead; `IsViolatedOn volume leg` says that the volume is
-- violated on that leg
pub record IsClosedBy (settings : Settings) (IsViolatedOn : Volume → ℕ → Type 0) : Type 0 where
  pub number : ℕ
  pub level : Level
  pub closes : Closes settings number level
  pub leg : ℕ
  pub before : leg < level.lookahead
  pub violates : IsViolatedOn level.volume leg

-- m is the greatest lookahead of the levels that close
pub record IsHorizon (settings : Settings) (m : ℕ) : Type 0 where
  pub number : ℕ
  pub level : Level
  pub closes : Closes settings number level
  pub reached : level.lookahead ≡ m
  pub most : (l : ℕ) (other : Level) → Closes settings l other → other.lookahead ≤ m

-- a configuration and an ended moment, the cylinder round each aircraft that a recovery stays out of, and how many seconds ahead
pub record OutlookState : Type 0 where
  pub settings : Settings
  pub picture : Picture
  pub cylinder : Volume
  pub horizon : ℕ
