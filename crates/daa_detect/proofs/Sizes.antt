-- How large the products of a leg and of its motion are: what is computed in 64 and 128 bits fits.
use Rattle.std.proofs.Common.{◌≡◌, ◌≤◌, ◌+◌, ◌*◌, ◌^◌, ℕ, arith, pos, ◌+ℤ◌, ◌*ℤ◌, ◌-ℤ◌, lit<, w64, to_z, of_z, to_z-of_z}
use mir.Syntax.{w128}
use Rattle.std.proofs.lemmas.Int.{ints}
use Rattle.daa_fixed.specs.declared.Leg.{Leg}
use Rattle.daa_fixed.specs.declared.Point.{Point}
use Rattle.daa_fixed.specs.Leg.{IsLegInRange}
use Rattle.daa_fixed.specs.Size.{IsWithin}
use Rattle.daa_fixed.proofs.Bounds.{times, plus, fits, within}
use Rattle.daa_fixed.proofs.LegSizes as size
use Rattle.daa_fixed.proofs.PointSizes.{IsPointInRange}
use Rattle.daa_vwindow.specs.Window.{HasSmallNumbers}
use Rattle.daa_detect.specs.declared.motion.Motion.{Motion}
use Rattle.daa_detect.specs.Inside.Motion.{rate_of}

-- ---- of a leg
module _ {leg : Leg} (r : IsLegInRange leg) where
  pub pe-kept : to_z w64 (of_z w64 leg.place.flat.east) ≡ leg.place.flat.east
  pe-kept = to_z-of_z (fits w64 (size.pe r) (lit< tt))

  pub pn-kept : to_z w64 (of_z w64 leg.place.flat.north) ≡ leg.place.flat.north
  pn-kept = to_z-of_z (fits w64 (size.pn r) (lit< tt))

  pub ve-kept : to_z w64 (of_z w64 leg.velocity.flat.east) ≡ leg.velocity.flat.east
  ve-kept = to_z-of_z (fits w64 (size.ve r) (lit< tt))

  pub vn-kept : to_z w64 (of_z w64 leg.velocity.flat.north) ≡ leg.velocity.flat.north
  vn-kept = to_z-of_z (fits w64 (size.vn r) (lit< tt))

  pub ee-kept : to_z w64 (of_z w64 (leg.place.flat.east *ℤ leg.velocity.flat.east)) ≡ leg.place.flat.east *ℤ leg.velocity.flat.east
  ee-kept = to_z-of_z (fits w64 (times (size.pe r) (size.ve r)) (lit< tt))

  pub nn-kept : to_z w64 (of_z w64 (leg.place.flat.north *ℤ leg.velocity.flat.north)) ≡ leg.place.flat.north *ℤ leg.velocity.flat.north
  nn-kept = to_z-of_z (fits w64 (times (size.pn r) (size.vn r)) (lit< tt))

  pub en-kept : to_z w64 (of_z w64 (leg.place.flat.east *ℤ leg.velocity.flat.north)) ≡ leg.place.flat.east *ℤ leg.velocity.flat.north
  en-kept = to_z-of_z (fits w64 (times (size.pe r) (size.vn r)) (lit< tt))

  pub ne-kept : to_z w64 (of_z w64 (leg.place.flat.north *ℤ leg.velocity.flat.east)) ≡ leg.place.flat.north *ℤ leg.velocity.flat.east
  ne-kept = to_z-of_z (fits w64 (times (size.pn r) (size.ve r)) (lit< tt))

  pub pee-kept : to_z w64 (of_z w64 (leg.place.flat.east *ℤ leg.place.flat.east)) ≡ leg.place.flat.east *ℤ leg.place.flat.east
  pee-kept = to_z-of_z (fits w64 (times (size.pe r) (size.pe r)) (lit< tt))

  pub pnn-kept : to_z w64 (of_z w64 (leg.place.flat.north *ℤ leg.place.flat.north)) ≡ leg.place.flat.north *ℤ leg.place.flat.north
  pnn-kept = to_z-of_z (fits w64 (times (size.pn r) (size.pn r)) (lit< tt))

  pub sv-kept : to_z w64
      (of_z w64 (leg.place.flat.east *ℤ leg.velocity.flat.east +ℤ leg.place.flat.north *ℤ leg.velocity.flat.north))
      ≡ leg.place.flat.east *ℤ leg.velocity.flat.east +ℤ leg.place.flat.north *ℤ leg.velocity.flat.north
  sv-kept = to_z-of_z (fits w64 (size.sv r) (lit< tt))

  pub sxv-kept : to_z w64
      (of_z w64 (leg.place.flat.east *ℤ leg.velocity.flat.north -ℤ leg.place.flat.north *ℤ leg.velocity.flat.east))
      ≡ leg.place.flat.east *ℤ leg.velocity.flat.north -ℤ leg.place.flat.north *ℤ leg.velocity.flat.east
  sxv-kept = to_z-of_z (fits w64 (size.sxv r) (lit< tt))

  pub ss-kept : to_z w64
      (of_z w64 (leg.place.flat.east *ℤ leg.place.flat.east +ℤ leg.place.flat.north *ℤ leg.place.flat.north))
      ≡ leg.place.flat.east *ℤ leg.place.flat.east +ℤ leg.place.flat.north *ℤ leg.place.flat.north
  ss-kept = to_z-of_z (fits w64 (size.ss r) (lit< tt))

pub ruleset of_leg = (pe-kept, pn-kept, ve-kept, vn-kept, ee-kept, nn-kept, en-kept, ne-kept, pee-kept, pnn-kept, sv-kept, sxv-kept, ss-kept)

-- ---- of a motion at a time
pub record IsMotionInRange (m : Motion) : Type 0 where
  pub speed : IsWithin 3200000000 m.speed_squared
  pub rate : IsWithin 3200000000000 m.rate
  pub margin : IsWithin (2 ^ 84) m.margin

pub record IsSmall (p : Point) : Type 0 where
  pub num : IsWithin 7200000 p.num
  pub den : IsWithin 40000 p.den

pub small : {p : Point} → IsPointInRange p → HasSmallNumbers p → IsSmall p
small {p} t s = record {
  num = within 7200000 p.num (omega (arith, ints, t.n0)) s.num;
  den = within 40000 p.den (omega (arith, ints, t.d0)) s.den;
}

-- 40000 times 3200000000000 and 7200000 times 3200000000
abbrev pub most_rate : ℕ
most_rate = 40000 * 3200000000000 + 7200000 * 3200000000

module _ {m : Motion} (s : IsMotionInRange m) where
  pub speed-kept : to_z w64 (of_z w64 m.speed_squared) ≡ m.speed_squared
  speed-kept = to_z-of_z (fits w64 s.speed (lit< tt))

  pub rate-kept : to_z w64 (of_z w64 m.rate) ≡ m.rate
  rate-kept = to_z-of_z (fits w64 s.rate (lit< tt))

  pub margin-kept : to_z w128 (of_z w128 m.margin) ≡ m.margin
  margin-kept = to_z-of_z (fits w128 s.margin (lit< tt))

module _ {p : Point} (t : IsSmall p) where
  pub num-kept : to_z w64 (of_z w64 p.num) ≡ p.num
  num-kept = to_z-of_z (fits w64 t.num (lit< tt))

  pub den-kept : to_z w64 (of_z w64 p.den) ≡ p.den
  den-kept = to_z-of_z (fits w64 t.den (lit< tt))

  pub dens-kept : to_z w64 (of_z w64 (p.den *ℤ p.den)) ≡ p.den *ℤ p.den
  dens-kept = to_z-of_z (fits w64 (times t.den t.den) (lit< tt))

  pub dens-wide : to_z w128 (of_z w128 (p.den *ℤ p.den)) ≡ p.den *ℤ p.den
  dens-wide = to_z-of_z (fits w128 (times t.den t.den) (lit< tt))

module _ {m : Motion} {p : Point} (s : IsMotionInRange m) (t : IsSmall p) where
  pub rate : IsWithin most_rate (rate_of m p.num p.den)
  rate = plus (times t.den s.rate) (times t.num s.speed)

  pub den-rate-kept : to_z w64 (of_z w64 (p.den *ℤ m.rate)) ≡ p.den *ℤ m.rate
  den-rate-kept = to_z-of_z (fits w64 (times t.den s.rate) (lit< tt))

  pub num-speed-kept : to_z w64 (of_z w64 (p.num *ℤ m.speed_squared)) ≡ p.num *ℤ m.speed_squared
  num-speed-kept = to_z-of_z (fits w64 (times t.num s.speed) (lit< tt))

  pub rate_of-kept : to_z w64 (of_z w64 (p.den *ℤ m.rate +ℤ p.num *ℤ m.speed_squared)) ≡ p.den *ℤ m.rate +ℤ p.num *ℤ m.speed_squared
  rate_of-kept = to_z-of_z (fits w64 rate (lit< tt))

  pub room-kept : to_z w128 (of_z w128 (p.den *ℤ p.den *ℤ m.margin)) ≡ p.den *ℤ p.den *ℤ m.margin
  room-kept = to_z-of_z (fits w128 (times (times t.den t.den) s.margin) (lit< tt))

pub ruleset of_motion = (speed-kept, rate-kept, margin-kept, num-kept, den-kept, dens-kept, dens-wide, den-rate-kept, num-speed-kept, rate_of-kept, room-kept)

-- what the rate gains in secs seconds
pub gain : {m : Motion} {p : Point} {secs : ℕ} → IsMotionInRange m → IsSmall p → secs ≤ 120 → IsWithin (120 * 40000 * 3200000000) (pos secs *ℤ p.den *ℤ m.speed_squared)
gain {m} {p} {secs} s t h = times (times (size.natural 120 secs h) t.den) s.speed

-- ---- of small numbers
pub two : IsWithin 2 (pos 2)
two = record { size = omega arith }

pub secs_kept : (n : ℕ) → n ≤ 120 → to_z w64 n ≡ pos n
secs_kept n h = omega (arith, ints)
