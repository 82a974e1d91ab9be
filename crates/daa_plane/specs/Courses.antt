-- The ownship's track and ground speed, and by how much the plane is turned so that the track is a whole degree.
use Rattle.std.specs.Prelude.{◌≡◌, ◌⊎◌, ◌<◌, ℕ, ℤ, pos, ◌+ℤ◌, ◌-ℤ◌, ◌*ℤ◌, ◌≤ℤ◌, ◌<ℤ◌, unsigned_abs, Bool, true, false, ◌&&◌, int_le, int_lt}
use Rattle.daa_fixed.specs.Size.{IsFrom}
use Rattle.daa_plane.specs.Rounding.{nearest}
use Rattle.daa_plane.specs.Sines.{direction_of}
use Rattle.daa_plane.specs.declared.place.Place.{Place}
use Rattle.daa_plane.specs.declared.courses.Course.{Course}
use Rattle.daa_plane.specs.declared.sines.Direction.{Direction}

-- the part of a velocity along a direction, and the part to its right, times ten million
unfoldable pub along : Place → Direction → ℤ
along own d = own.vx *ℤ d.east +ℤ own.vy *ℤ d.north

unfoldable pub across : Place → Direction → ℤ
across own d = own.vx *ℤ d.north -ℤ own.vy *ℤ d.east

-- whether the velocity is along a direction but for one part in 114, which is half a degree
unfoldable pub is_along : Place → Direction → Bool
is_along own d = int_lt (pos 0) (along own d) && int_le (pos 114 *ℤ pos (unsigned_abs (across own d))) (along own d)

-- by how much the velocity is turned to the right of a direction, in 0.0001 degree: a radian has 572958
unfoldable pub turn_from : Place → Direction → ℤ
turn_from own d = nearest (pos 572958 *ℤ across own d) (along own d)

-- the velocity is along no whole degree, as where the ownship stands still
abbrev pub StandsStill : Place → Type 0
StandsStill own = (degree : ℕ) → degree < 360 → is_along own (direction_of (pos degree)) ≡ false

-- the track is the first whole degree along which the velocity is, and the turn what is left
pub record IsAlong (own : Place) (track turn : ℤ) : Type 0 where
  pub range : IsFrom (pos 0) (pos 359) track
  pub along : is_along own (direction_of track) ≡ true
  pub first : (degree : ℕ) → pos degree <ℤ track → is_along own (direction_of (pos degree)) ≡ false
  pub rest : turn ≡ turn_from own (direction_of track)

-- track and turn; both are 0 where the ownship stands still
abbrev pub IsTrack : (own : Place) (track turn : ℤ) → Type 0
IsTrack own track turn = IsAlong own track turn ⊎ (StandsStill own × (track ≡ pos 0) × (turn ≡ pos 0))

-- the square of the ground speed
abbrev pub speed_square : Place → ℤ
speed_square own = own.vx *ℤ own.vx +ℤ own.vy *ℤ own.vy

-- a number is the whole one nearest to the root of a square
pub record IsNearestRoot (square root : ℤ) : Type 0 where
  pub range : pos 0 ≤ℤ root
  pub least : pos 0 <ℤ root → ((pos 2 *ℤ root -ℤ pos 1) *ℤ (pos 2 *ℤ root -ℤ pos 1)) ≤ℤ (pos 4 *ℤ square)
  pub most : (pos 4 *ℤ square) <ℤ ((pos 2 *ℤ root +ℤ pos 1) *ℤ (pos 2 *ℤ root +ℤ pos 1))

-- the ownship's numbers in the plane
pub record IsCourse (own : Place) (course : Course) : Type 0 where
  pub track : IsTrack own course.trk course.turn
  pub speed : IsNearestRoot (speed_square own) course.gs
