-- Which of the values that recover at the same time is named.
use Rattle.std.specs.Prelude.{◌*◌, ◌+◌, ℤ, pos, negsuc, ◌+ℤ◌, ◌-ℤ◌, if◌then◌else◌}
use Rattle.std.specs.Int.{int_rem_euclid}
use Rattle.daa_config.specs.Limits.{full_turn}
use Rattle.daa_config.specs.Settings.{Settings}
use Rattle.daa_config.specs.declared.kind.Kind.{Kind}
use Rattle.daa_config.specs.declared.kind.Kind.TheVariants.{Track}
use Rattle.daa_state.specs.declared.word.Own.{Own}
use Rattle.daa_resolve.specs.Side.{present_of}

-- the way from the present value to another: on track the turn in degrees, up to 180 to the right and, below 0, up to 179 to the left;
-- on the other kinds the difference
abbrev pub way_of : Kind → ℤ → ℤ → ℤ
way_of Track now value = int_rem_euclid (value -ℤ now +ℤ pos 179) (pos full_turn) -ℤ pos 179
way_of _ now value = value -ℤ now

-- the place of a way among all: the shorter one comes first, and of two equally long ones that to the right or up: 0, 1, -1, 2, -2, ..
abbrev pub place_of_way : ℤ → ℤ
place_of_way (pos n) = pos (2 * n)
place_of_way (negsuc n) = pos (2 * n + 3)

-- the place of a value among all: the nearest to the ownship's present value comes first if the configuration asks for it, else the
-- least
abbrev pub place_of : Settings → Own → Kind → ℤ → ℤ
place_of settings own kind value = if settings.nearest then place_of_way (way_of kind (present_of kind own) value) else value
