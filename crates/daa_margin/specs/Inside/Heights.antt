-- The heights that count, as conditions on the time that are linear in it.
use Rattle.std.specs.Prelude.{ℕ, ℤ, pos, neg_ℤ, ◌+ℤ◌, ◌-ℤ◌, ◌*ℤ◌, ◌≤ℤ◌, ◌↔◌}
use Rattle.std.specs.Int.{int_max}
use Rattle.daa_fixed.specs.declared.Point.{Point}
use Rattle.daa_fixed.specs.Time.{IsTime}
use Rattle.daa_taumod.specs.declared.Volume.{Volume}
use Rattle.daa_fixed.specs.declared.Leg.{Leg}
use Rattle.daa_taumod.specs.Volume.{height_at}
use Rattle.daa_margin.specs.declared.ErrorBounds.{ErrorBounds}
use Rattle.daa_margin.specs.ErrorBounds.{height_error_at}

-- by n/d a way of `gap` is made good at `pace`
abbrev pub IsReached : (gap pace n d : ℤ) → Type 0
IsReached gap pace n d = (gap *ℤ d) ≤ℤ (n *ℤ pace)

-- by n/d a way of `room` is not used up at `pace`
abbrev pub IsKept : (room pace n d : ℤ) → Type 0
IsKept room pace n d = (n *ℤ pace) ≤ℤ (room *ℤ d)

-- q is the last time of the leg at which a way of `room` is not used up at `pace`
pub record IsLastKept (secs : ℕ) (room pace : ℤ) (q : Point) : Type 0 where
  pub time : IsTime secs q.num q.den
  pub exact : (n d : ℤ) → IsTime secs n d → (IsKept room pace n d ↔ ((n *ℤ q.den) ≤ℤ (q.num *ℤ d)))

-- how far too high what is `over` above may be: less zthr, or what it may lose in tcoa seconds, whichever is more
abbrev pub gap_of : (over nearing : ℤ) → Volume → ℤ
gap_of over nearing volume = over -ℤ int_max (pos volume.zthr) (pos volume.tcoa *ℤ nearing)

-- what begins at `height`, not below, and rises at `speed`: not too high any more, and not too low yet
pub record IsInReach (height speed : ℤ) (volume : Volume) (bounds : ErrorBounds) (n d : ℤ) : Type 0 where
  pub reached : IsReached (gap_of (height -ℤ pos bounds.height) (pos bounds.climb -ℤ speed) volume) (pos bounds.climb -ℤ speed) n d
  pub kept : IsKept (height +ℤ pos bounds.height +ℤ pos volume.zthr) (neg_ℤ speed -ℤ pos bounds.climb) n d

-- what is not below at n/d may be no more above at m/e
pub record ComesDown (leg : Leg) (bounds : ErrorBounds) (n d m e : ℤ) : Type 0 where
  pub begins : pos 0 ≤ℤ height_at leg n d
  pub ends : height_at leg m e ≤ℤ height_error_at bounds m e

-- what is not above at n/d may be no more below at m/e
pub record ComesUp (leg : Leg) (bounds : ErrorBounds) (n d m e : ℤ) : Type 0 where
  pub begins : height_at leg n d ≤ℤ pos 0
  pub ends : pos 0 ≤ℤ (height_at leg m e +ℤ height_error_at bounds m e)
