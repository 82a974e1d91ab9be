-- The well-clear volume at one time of a straight leg: the models WCV_TAU, WCV_TCPA, WCV_TAUMOD and WCV_TEP of Munoz and
-- others, A Family of Well-Clear Boundary Models. The time is n/d seconds after the leg's beginning; every bound is
-- multiplied out by d, so that all numbers are whole, and is inclusive.
use Rattle.std.specs.Prelude.{ℕ, ℤ, pos, ◌+ℤ◌, neg_ℤ, ◌*ℤ◌, ◌≤ℤ◌, ◌<ℤ◌, ◌⊎◌, unsigned_abs, ◌≤◌}
use Rattle.daa_fixed.specs.Flat.{dot_of, cross_of, square_of}
use Rattle.daa_fixed.specs.declared.Flat.{Flat}
use Rattle.daa_fixed.specs.declared.Leg.{Leg}
use Rattle.daa_taumod.specs.declared.Model.{Model}
use Rattle.daa_taumod.specs.declared.Model.TheVariants.{Tau, Tcpa, Taumod, Tep}
use Rattle.daa_taumod.specs.declared.Volume.{Volume}

-- thresholds as large as a configuration's: 10 nautical miles, 10000 feet, 120 seconds
pub record IsVolumeInRange (volume : Volume) : Type 0 where
  pub dthr : volume.dthr ≤ 360000
  pub zthr : volume.zthr ≤ 600000
  pub tthr : volume.tthr ≤ 120
  pub tcoa : volume.tcoa ≤ 120

-- the models in the order in which their volumes lie one within the next, where the thresholds are the same
abbrev pub place_of : Model → ℕ
place_of Tau = 0
place_of Tcpa = 1
place_of Taumod = 2
place_of Tep = 3

-- the same thresholds by another model
abbrev pub with_model : Model → Volume → Volume
with_model model volume = record volume { model = model }

-- d times the horizontal place at n/d
abbrev pub place_at : Leg → ℤ → ℤ → Flat
place_at leg n d = record {
  east = d *ℤ leg.place.flat.east +ℤ n *ℤ leg.velocity.flat.east;
  north = d *ℤ leg.place.flat.north +ℤ n *ℤ leg.velocity.flat.north;
}

-- d times the difference in height at n/d
abbrev pub height_at : Leg → ℤ → ℤ → ℤ
height_at leg n d = d *ℤ leg.place.up +ℤ n *ℤ leg.velocity.up

-- the distance is at most dthr
abbrev pub IsNear : Leg → Volume → ℤ → ℤ → Type 0
IsNear leg volume n d = dot_of (place_at leg n d) (place_at leg n d) ≤ℤ square_of (pos volume.dthr *ℤ d)

-- what moves on the straight line has a distance of at most dthr at its closest approach; of what stands still it holds
abbrev pub PassesNear : Leg → Volume → ℤ → ℤ → Type 0
PassesNear leg volume n d =
    square_of (cross_of (place_at leg n d) leg.velocity.flat) ≤ℤ (square_of (pos volume.dthr *ℤ d) *ℤ dot_of leg.velocity.flat leg.velocity.flat)

-- where the distance falls, on a line that comes within dthr, the time that the model looks at is at most tthr: tau, the time to
-- the closest approach, modified tau, or the time until the distance is dthr. For the last no root is needed: flown straight on
-- for tthr seconds, it is then at most dthr, or falls no more.
abbrev pub IsSoon : Model → Leg → Volume → ℤ → ℤ → Type 0
IsSoon Tau leg volume n d =
    (dot_of (place_at leg n d) (place_at leg n d) +ℤ pos volume.tthr *ℤ d *ℤ dot_of (place_at leg n d) leg.velocity.flat) ≤ℤ pos 0
IsSoon Tcpa leg volume n d =
    neg_ℤ (dot_of (place_at leg n d) leg.velocity.flat) ≤ℤ (pos volume.tthr *ℤ d *ℤ dot_of leg.velocity.flat leg.velocity.flat)
IsSoon Taumod leg volume n d =
    (dot_of (place_at leg n d) (place_at leg n d) +ℤ pos volume.tthr *ℤ d *ℤ dot_of (place_at leg n d) leg.velocity.flat) ≤ℤ square_of (pos volume.dthr *ℤ d)
IsSoon Tep leg volume n d =
    (pos 0 ≤ℤ dot_of (place_at leg (n +ℤ pos volume.tthr *ℤ d) d) leg.velocity.flat) ⊎ IsNear leg volume (n +ℤ pos volume.tthr *ℤ d) d

-- the distance falls, soon, and to at most dthr
pub record IsClosing (leg : Leg) (volume : Volume) (n d : ℤ) : Type 0 where
  pub nearing : dot_of (place_at leg n d) leg.velocity.flat <ℤ pos 0
  pub soon : IsSoon volume.model leg volume n d
  pub near : PassesNear leg volume n d

-- the difference in height is at most zthr
abbrev pub IsNearInHeight : Leg → Volume → ℤ → ℤ → Type 0
IsNearInHeight leg volume n d = pos (unsigned_abs (height_at leg n d)) ≤ℤ (pos volume.zthr *ℤ d)

-- the difference in height falls, and the time to co-altitude is at most tcoa
pub record IsCoAltitudeSoon (leg : Leg) (volume : Volume) (n d : ℤ) : Type 0 where
  pub nearing : (height_at leg n d *ℤ leg.velocity.up) <ℤ pos 0
  pub soon : pos (unsigned_abs (height_at leg n d)) ≤ℤ (pos volume.tcoa *ℤ d *ℤ pos (unsigned_abs leg.velocity.up))

-- horizontally: the distance is at most dthr, or soon will be
abbrev pub ViolatesHorizontally : Leg → Volume → ℤ → ℤ → Type 0
ViolatesHorizontally leg volume n d = IsNear leg volume n d ⊎ IsClosing leg volume n d

-- vertically: the difference in height is at most zthr, or co-altitude is near in time
abbrev pub ViolatesVertically : Leg → Volume → ℤ → ℤ → Type 0
ViolatesVertically leg volume n d = IsNearInHeight leg volume n d ⊎ IsCoAltitudeSoon leg volume n d

-- the volume is violated at n/d: both parts hold at that one time
pub record Violates (leg : Leg) (volume : Volume) (n d : ℤ) : Type 0 where
  pub horizontal : ViolatesHorizontally leg volume n d
  pub vertical : ViolatesVertically leg volume n d
