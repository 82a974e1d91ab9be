-- Which number of a state is out of its range, and which aircraft make no picture.
use Rattle.std.specs.Prelude.{◌≡◌, ◌+◌, ℕ, ℤ, pos, true, false, Bool, ◌&&◌, int_le, nat_lt, List, [], ◌∷◌, length, take, slice_get, Option, Some, None, if◌then◌else◌}
use Rattle.daa_state.specs.InRange.{IsTrafficInRange}
use Rattle.daa_state.specs.MomentStep.{has_id}
use Rattle.daa_state.specs.Ranges.{Bounds, positions, altitudes, tracks, ground_speeds, speeds, vertical_speeds, ages, error_bounds}
use Rattle.daa_state.specs.declared.checked.Field.{Field}
use Rattle.daa_state.specs.declared.checked.Field.TheVariants.{East, North, Altitude, Track, GroundSpeed, VerticalSpeed, SpeedEast, SpeedNorth, Age, PlaceBound, HeightBound, SpeedBound, ClimbBound}
use Rattle.daa_state.specs.declared.checked.Number.{Number}
use Rattle.daa_state.specs.declared.checked.OutOfRange.{OutOfRange}
use Rattle.daa_state.specs.declared.checked.PictureFault.{PictureFault}
use Rattle.daa_state.specs.declared.checked.PictureFault.TheVariants as says
use Rattle.daa_state.specs.declared.word.Own.{Own}
use Rattle.daa_state.specs.declared.word.ReportBounds.{ReportBounds}
use Rattle.daa_state.specs.declared.word.Traffic.{Traffic}

-- the bounds of the numbers that a field names
abbrev pub bounds_of : Field → Bounds
bounds_of East = positions
bounds_of North = positions
bounds_of Altitude = altitudes
bounds_of Track = tracks
bounds_of GroundSpeed = ground_speeds
bounds_of VerticalSpeed = vertical_speeds
bounds_of SpeedEast = speeds
bounds_of SpeedNorth = speeds
bounds_of Age = ages
bounds_of PlaceBound = error_bounds
bounds_of HeightBound = error_bounds
bounds_of SpeedBound = error_bounds
bounds_of ClimbBound = error_bounds

-- whether a number is in a range
abbrev pub is_within : Bounds → ℤ → Bool
is_within range n = int_le range.low n && int_le n range.high

-- the report of a number that is out of range
abbrev pub out_of_range : Field → OutOfRange
out_of_range field = record { field = field; least = (bounds_of field).low; greatest = (bounds_of field).high }

-- a number, and what it is
abbrev pub number_of : Field → ℤ → Number
number_of field number = record { field = field; number = number }

-- the report of the first of the numbers that is out of its range
unfoldable pub first_out_of_range : List Number → Option OutOfRange
first_out_of_range [] = None
first_out_of_range (n ∷ others) = if is_within (bounds_of n.field) n.number then first_out_of_range others else Some (out_of_range n.field)

-- the numbers of an ownship, in the order of its fields
abbrev pub own_numbers : Own → List Number
own_numbers own = number_of East own.x ∷ number_of North own.y ∷ number_of Altitude own.alt ∷ number_of Track own.trk
    ∷ number_of GroundSpeed own.gs ∷ number_of VerticalSpeed own.vs ∷ []

-- the bounds of a report, in the order of its fields, before other numbers
abbrev pub with_bounds : ReportBounds → List Number → List Number
with_bounds bounds others = number_of PlaceBound (pos bounds.place) ∷ number_of HeightBound (pos bounds.height)
    ∷ number_of SpeedBound (pos bounds.speed) ∷ number_of ClimbBound (pos bounds.climb) ∷ others

-- the numbers of an aircraft, in the order of its fields
abbrev pub traffic_numbers : Traffic → List Number
traffic_numbers t = number_of East t.x ∷ number_of North t.y ∷ number_of Altitude t.alt ∷ number_of SpeedEast t.vx
    ∷ number_of SpeedNorth t.vy ∷ number_of VerticalSpeed t.vs ∷ number_of Age (pos t.age)
    ∷ with_bounds t.bounds.own (with_bounds t.bounds.aircraft [])

-- the aircraft at a place of a list is in range, and none before it has its identifier
pub record IsTakenAt (traffic : List Traffic) (place : ℕ) (aircraft : Traffic) : Type 0 where
  pub range : IsTrafficInRange aircraft
  pub new : has_id aircraft.id (take place traffic) ≡ false

-- the aircraft of a list are in range, and no two have one identifier
abbrev pub AreTaken : List Traffic → Type 0
AreTaken traffic = (place : ℕ) (aircraft : Traffic) → slice_get traffic place ≡ Some aircraft → IsTakenAt traffic place aircraft

-- what is told of the aircraft at a place: the number that is out of its range, or else that an earlier one has its identifier
abbrev pub told_at : ℕ → Option OutOfRange → Bool → Option PictureFault
told_at place (Some fault) twice = Some (says.Traffic place fault)
told_at place None true = Some (says.SameId place)
told_at place None false = None

-- what is wrong with an aircraft at a place of a list
abbrev pub fault_at : List Traffic → ℕ → Traffic → Option PictureFault
fault_at traffic place aircraft = told_at place (first_out_of_range (traffic_numbers aircraft)) (has_id aircraft.id (take place traffic))

-- the first of the two that is there
abbrev pub earlier : {A : Type 0} → Option A → Option A → Option A
earlier (Some first) second = Some first
earlier None second = second

-- the first fault of the aircraft that are in a list from a place on
unfoldable pub fault_from : List Traffic → ℕ → List Traffic → Option PictureFault
fault_from traffic place [] = None
fault_from traffic place (aircraft ∷ others) = earlier (fault_at traffic place aircraft) (fault_from traffic (place + 1) others)

-- what is told of an ownship of which this number is out of its range
abbrev pub own_fault : Option OutOfRange → Option PictureFault
own_fault (Some fault) = Some (says.Own fault)
own_fault None = None

-- why an ownship and a list of aircraft are no picture: the first of too many aircraft, the ownship, and the aircraft by their places
unfoldable pub picture_fault_of : Own → List Traffic → Option PictureFault
picture_fault_of own traffic =
    if nat_lt 64 (length traffic) then Some says.TooMany
    else earlier (own_fault (first_out_of_range (own_numbers own))) (fault_from traffic 0 traffic)
