-- A level in units: 36 to 0.001 NM and 60 to a foot.
use Rattle.std.specs.Prelude.{◌*◌, zero, ℤ, pos, nat_abs, Bool, true, false, not, ◌&&◌, ◌||◌, if◌then◌else◌, Option}
use Rattle.std.specs.Option.{option_map_or}
use Rattle.daa_taumod.specs.declared.Model.{Model}
use Rattle.daa_taumod.specs.declared.Model.TheVariants.{Tau, Tcpa, Taumod, Tep}
use Rattle.daa_taumod.specs.declared.Volume.{Volume}
use Rattle.daa_config.specs.declared.level.Level.{Level}
use Rattle.daa_config.specs.declared.numbers.LevelNumbers.{LevelNumbers}
use Rattle.daa_config.specs.declared.numbers.RecoveryNumbers.{RecoveryNumbers}

-- whether a key that is 0 or 1 asks for what it stands for
abbrev pub is_set : ℤ → Bool
is_set (pos zero) = false
is_set _ = true

-- at most one of the keys `tau`, `tcpa` and `tep` asks for its model
abbrev pub asks_one : LevelNumbers → Bool
asks_one n = not (is_set n.tau && (is_set n.tcpa || is_set n.tep)) && not (is_set n.tcpa && is_set n.tep)

-- the model that the level asks for: modified tau where none of the three keys does
abbrev pub model_of : LevelNumbers → Model
model_of n = if is_set n.tau then Tau else if is_set n.tcpa then Tcpa else if is_set n.tep then Tep else Taumod

-- the well-clear volume of a level
abbrev pub volume_of : LevelNumbers → Volume
volume_of n = record {
  dthr = 36 * nat_abs n.dthr;
  zthr = 60 * nat_abs n.zthr;
  tthr = nat_abs n.tthr;
  tcoa = nat_abs n.tcoa;
  model = model_of n;
}

-- the volume that a recovery stays out of: what is within these distances, however it moves
abbrev pub cylinder_of : RecoveryNumbers → Volume
cylinder_of n = record {
  dthr = 36 * nat_abs n.hdist;
  zthr = 60 * nat_abs n.vdist;
  tthr = 0;
  tcoa = 0;
  model = Taumod;
}

-- the recovery is asked to name the value nearest to the present one
abbrev pub asks_nearest : Option RecoveryNumbers → Bool
asks_nearest recovery = option_map_or (λ n. is_set n.nearest) recovery false

-- the level of these numbers
abbrev pub level_of : LevelNumbers → Level
level_of n = record { volume = volume_of n; lookahead = nat_abs n.lookahead; alert = nat_abs n.alert }
