-- The well-clear volume where errors have bounds: what the truth may violate, said of what is reported. It is the volume of
-- daa_taumod with each distance widened by the error that there may be at that time; the levels of the models tau and tcpa are
-- decided as modified tau, since their volumes lie within its. The time is n/d seconds after the leg's beginning; every bound is
-- multiplied out by d, so that all numbers are whole, and is inclusive.
use Rattle.std.specs.Prelude.{ℕ, ℤ, pos, ◌+ℤ◌, ◌*ℤ◌, ◌≤ℤ◌, ◌⊎◌, ◌≤◌, unsigned_abs}
use Rattle.daa_fixed.specs.Flat.{dot_of, square_of}
use Rattle.daa_fixed.specs.declared.Flat.{Flat}
use Rattle.daa_fixed.specs.declared.Leg.{Leg}
use Rattle.daa_taumod.specs.declared.Model.{Model}
use Rattle.daa_taumod.specs.declared.Model.TheVariants.{Tau, Tcpa, Taumod, Tep}
use Rattle.daa_taumod.specs.declared.Volume.{Volume}
use Rattle.daa_taumod.specs.Volume.{place_of, place_at, height_at}
use Rattle.daa_margin.specs.declared.ErrorBounds.{ErrorBounds}
use Rattle.daa_margin.specs.ErrorBounds.{place_error_at, height_error_at}

-- P holds at some time from n/d to secs seconds later
pub record HoldsWithinNext (secs : ℕ) (P : ℤ → ℤ → Type 0) (n d : ℤ) : Type 0 where
  pub num : ℤ
  pub den : ℤ
  pub fraction : pos 1 ≤ℤ den
  pub from : (n *ℤ den) ≤ℤ (num *ℤ d)
  pub upto : (num *ℤ d) ≤ℤ ((n +ℤ pos secs *ℤ d) *ℤ den)
  pub holds : P num den

-- the least whole number from 0 up whose square is at least this one
pub record IsRootAbove (square root : ℤ) : Type 0 where
  pub from : pos 0 ≤ℤ root
  pub above : square ≤ℤ square_of root
  pub least : (other : ℤ) → pos 0 ≤ℤ other → square ≤ℤ square_of other → root ≤ℤ other

-- no threshold of the inner volume is above that of the outer one, and its model comes no later in the order of the models
pub record IsVolumeWithin (inner outer : Volume) : Type 0 where
  pub dthr : inner.dthr ≤ outer.dthr
  pub zthr : inner.zthr ≤ outer.zthr
  pub tthr : inner.tthr ≤ outer.tthr
  pub tcoa : inner.tcoa ≤ outer.tcoa
  pub model : place_of inner.model ≤ place_of outer.model

module _ (leg : Leg) (volume : Volume) (bounds : ErrorBounds) where
  -- the distance may be at most dthr
  abbrev pub MayBeNear : ℤ → ℤ → Type 0
  MayBeNear n d = dot_of (place_at leg n d) (place_at leg n d) ≤ℤ square_of (pos volume.dthr *ℤ d +ℤ place_error_at bounds n d)

  -- d times twice the place in the middle of the next tthr seconds, flown straight on
  abbrev pub twice_middle_at : ℤ → ℤ → Flat
  twice_middle_at n d = record {
    east = pos 2 *ℤ (place_at leg n d).east +ℤ pos volume.tthr *ℤ d *ℤ leg.velocity.flat.east;
    north = pos 2 *ℤ (place_at leg n d).north +ℤ pos volume.tthr *ℤ d *ℤ leg.velocity.flat.north;
  }

  -- d times twice the greatest error of that place
  abbrev pub twice_middle_error_at : ℤ → ℤ → ℤ
  twice_middle_error_at n d = pos 2 *ℤ place_error_at bounds n d +ℤ pos volume.tthr *ℤ d *ℤ pos bounds.speed

  -- where modified tau is at most tthr, the square of twice the place in that middle is at most 4 dthr^2 plus the square of the way of
  -- tthr seconds. This is the most that the sum can be in truth, if the reported speed is at most `speed`.
  abbrev pub square_within : ℤ → ℤ
  square_within speed = pos 4 *ℤ square_of (pos volume.dthr)
      +ℤ square_of (pos volume.tthr) *ℤ (dot_of leg.velocity.flat leg.velocity.flat +ℤ pos 2 *ℤ speed *ℤ pos bounds.speed +ℤ square_of (pos bounds.speed))

  -- modified tau may be at most tthr: twice the place in that middle is at most as far off as the root of the square above and the
  -- error together. Both roots are rounded up to whole numbers.
  pub record MayBeSoon (n d : ℤ) : Type 0 where
    pub speed : ℤ
    pub reach : ℤ
    pub speed_is : IsRootAbove (dot_of leg.velocity.flat leg.velocity.flat) speed
    pub reach_is : IsRootAbove (square_within speed) reach
    pub soon : dot_of (twice_middle_at n d) (twice_middle_at n d) ≤ℤ (square_of d *ℤ square_within speed
        +ℤ pos 2 *ℤ (d *ℤ reach) *ℤ twice_middle_error_at n d +ℤ square_of (twice_middle_error_at n d))

  -- by the time to the entry point nothing more is asked than that the distance may soon be at most dthr
  abbrev pub MayBeSoonBy : Model → ℤ → ℤ → Type 0
  MayBeSoonBy Tau n d = MayBeSoon n d
  MayBeSoonBy Tcpa n d = MayBeSoon n d
  MayBeSoonBy Taumod n d = MayBeSoon n d
  MayBeSoonBy Tep n d = Unit {0}

  -- the distance may be at most dthr at some time of the next tthr seconds, flown straight on, and this counts as soon by the model
  pub record MayEnter (n d : ℤ) : Type 0 where
    pub near : HoldsWithinNext volume.tthr MayBeNear n d
    pub soon : MayBeSoonBy volume.model n d

  -- horizontally: the distance may be at most dthr, or soon may be
  abbrev pub MayViolateHorizontally : ℤ → ℤ → Type 0
  MayViolateHorizontally n d = MayBeNear n d ⊎ MayEnter n d

  -- the difference in height may be at most zthr
  abbrev pub MayBeNearInHeight : ℤ → ℤ → Type 0
  MayBeNearInHeight n d = pos (unsigned_abs (height_at leg n d)) ≤ℤ (pos volume.zthr *ℤ d +ℤ height_error_at bounds n d)

  -- the difference in height may be 0
  abbrev pub MayBeCoAltitude : ℤ → ℤ → Type 0
  MayBeCoAltitude n d = pos (unsigned_abs (height_at leg n d)) ≤ℤ height_error_at bounds n d

  -- vertically: the difference in height may be at most zthr, or may be 0 at some time of the next tcoa seconds, flown straight on
  abbrev pub MayViolateVertically : ℤ → ℤ → Type 0
  MayViolateVertically n d = MayBeNearInHeight n d ⊎ HoldsWithinNext volume.tcoa MayBeCoAltitude n d

  -- the volume may be violated at n/d: both parts may hold at that one time
  pub record MayViolate (n d : ℤ) : Type 0 where
    pub horizontal : MayViolateHorizontally n d
    pub vertical : MayViolateVertically n d
