-- Words, moments and pictures whose numbers are in range.
use Rattle.std.specs.Prelude.{ℕ, ◌≡◌, ◌≤◌, ℤ, ◌≤ℤ◌, unsigned_abs, true, length, All}
use Rattle.daa_state.specs.Id.{is_id}
use Rattle.daa_state.specs.Ranges.{Bounds, positions, altitudes, tracks, ground_speeds, speeds, vertical_speeds, ages, error_bounds, formats}
use Rattle.daa_state.specs.Picture.{aircraft_of}
use Rattle.daa_state.specs.declared.word.Own.{Own}
use Rattle.daa_state.specs.declared.word.PairBounds.{PairBounds}
use Rattle.daa_state.specs.declared.word.ReportBounds.{ReportBounds}
use Rattle.daa_state.specs.declared.word.Traffic.{Traffic}
use Rattle.daa_state.specs.declared.word.Picture.{Picture}
use Rattle.daa_state.specs.declared.word.Word.{Word}
use Rattle.daa_state.specs.declared.word.Word.TheVariants as says

-- the number is in the range; both ends belong to it
abbrev pub IsWithin : Bounds → ℤ → Type 0
IsWithin range n = (range.low ≤ℤ n) × (n ≤ℤ range.high)

-- a place east or north is in its range
abbrev pub IsPosition : ℤ → Type 0
IsPosition = IsWithin positions

-- an altitude is in its range
abbrev pub IsAltitude : ℤ → Type 0
IsAltitude = IsWithin altitudes

-- a track is in its range
abbrev pub IsTrack : ℤ → Type 0
IsTrack = IsWithin tracks

-- a ground speed is in its range
abbrev pub IsGroundSpeed : ℤ → Type 0
IsGroundSpeed = IsWithin ground_speeds

-- an aircraft's speed east or north is in its range
abbrev pub IsSpeed : ℤ → Type 0
IsSpeed = IsWithin speeds

-- a vertical speed is in its range
abbrev pub IsVerticalSpeed : ℤ → Type 0
IsVerticalSpeed = IsWithin vertical_speeds

-- the age of a report is in its range
abbrev pub IsAge : ℕ → Type 0
IsAge n = n ≤ unsigned_abs ages.high

-- a bound of an error is in its range
abbrev pub IsErrorBound : ℕ → Type 0
IsErrorBound n = n ≤ unsigned_abs error_bounds.high

-- each bound of a report is in its range
pub record AreReportBoundsInRange (bounds : ReportBounds) : Type 0 where
  pub place : IsErrorBound bounds.place
  pub height : IsErrorBound bounds.height
  pub speed : IsErrorBound bounds.speed
  pub climb : IsErrorBound bounds.climb

-- so are those of both reports
pub record AreBoundsInRange (bounds : PairBounds) : Type 0 where
  pub own : AreReportBoundsInRange bounds.own
  pub aircraft : AreReportBoundsInRange bounds.aircraft

-- the format of the lines is 1, 2 or 3
abbrev pub IsFormat : ℕ → Type 0
IsFormat n = (unsigned_abs formats.low ≤ n) × (n ≤ unsigned_abs formats.high)

-- each number of the ownship is in its range
pub record IsOwnInRange (own : Own) : Type 0 where
  pub x : IsPosition own.x
  pub y : IsPosition own.y
  pub alt : IsAltitude own.alt
  pub trk : IsTrack own.trk
  pub gs : IsGroundSpeed own.gs
  pub vs : IsVerticalSpeed own.vs

-- the identifier is well formed, and each number of the aircraft is in its range
pub record IsTrafficInRange (traffic : Traffic) : Type 0 where
  pub id : is_id traffic.id ≡ true
  pub x : IsPosition traffic.x
  pub y : IsPosition traffic.y
  pub alt : IsAltitude traffic.alt
  pub vx : IsSpeed traffic.vx
  pub vy : IsSpeed traffic.vy
  pub vs : IsVerticalSpeed traffic.vs
  pub age : IsAge traffic.age
  pub bounds : AreBoundsInRange traffic.bounds

-- the numbers of a word are in their ranges
abbrev pub IsWordInRange : Word → Type 0
IsWordInRange (says.Moment time) = Unit {0}
IsWordInRange (says.Own own bounds) = IsOwnInRange own × AreReportBoundsInRange bounds
IsWordInRange (says.Traffic traffic) = IsTrafficInRange traffic
IsWordInRange (says.Format format) = IsFormat format
IsWordInRange says.End = Unit {0}
IsWordInRange says.Skip = Unit {0}

-- the ownship and the aircraft, at most 64, are in their ranges
pub record IsPictureInRange (picture : Picture) : Type 0 where
  pub own : IsOwnInRange picture.own
  pub traffic : All IsTrafficInRange (aircraft_of picture)
  pub count : length (aircraft_of picture) ≤ 64
