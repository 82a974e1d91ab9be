use Rattle.std.proofs.Common.{◌≡◌, ◌≤◌, ◌<◌, ◌^◌, ℕ, ℤ, pos, unsigned_abs, ◌+ℤ◌, ◌-ℤ◌, ◌*ℤ◌, lit<, arith, refl, FitsSigned, w64, to_z, of_z, to_z-of_z}
use Rattle.daa_fixed.specs.Size.{IsWithin}
use Rattle.daa_fixed.proofs.Bounds.{times, plus, minus, fits}
use Rattle.daa_fixed.proofs.LegSizes as leg
use Rattle.daa_fixed.proofs.LegSizes.{natural}
use Rattle.daa_margin.proofs.MomentSizes.{small_kept}
use Rattle.daa_margin.proofs.near.drift.Goals as goal

-- one axis, as the code computes it: nothing is lost
abbrev way : (p q : ℕ) (v : ℤ) → ℤ
way p q v = to_z w64 (of_z w64 (to_z w64 p +ℤ to_z w64 q)) *ℤ to_z w64 (of_z w64 v)

abbrev gap : (p q s : ℕ) (v x : ℤ) → ℤ
gap p q s v x = to_z w64 (of_z w64 (way p q v)) -ℤ to_z w64 (of_z w64 (to_z w64 s *ℤ to_z w64 (of_z w64 x)))

kept : (p q s : ℕ) (v x : ℤ) → p ≤ 360000 → q ≤ 8000000 → s ≤ 30000 → IsWithin 40000 v → IsWithin 40000000 x
    → FitsSigned w64 (way p q v) × FitsSigned w64 (gap p q s v x)
    × (to_z w64 (of_z w64 (gap p q s v x)) ≡ (pos p +ℤ pos q) *ℤ v -ℤ pos s *ℤ x) × (unsigned_abs (to_z w64 (of_z w64 (gap p q s v x))) < 2 ^ 60)
kept p q s v x hp hq hs hv hx =
    let e1 = small_kept p (omega (arith, hp)) in
    let e2 = small_kept q (omega (arith, hq)) in
    let e3 = small_kept s (omega (arith, hs)) in
    let radius = plus (natural 360000 p hp) (natural 8000000 q hq) in
    let left = times radius hv in
    let right = times (natural 30000 s hs) hx in
    let all = minus left right in
    let f1 = fits w64 radius (lit< tt) in
    let f2 = fits w64 hv (lit< tt) in
    let f3 = fits w64 hx (lit< tt) in
    let f4 = fits w64 left (lit< tt) in
    let f5 = fits w64 right (lit< tt) in
    let f6 = fits w64 all (lit< tt) in
    simp (e1, e2, e3, to_z-of_z) (f4, f6, refl, omega (arith, all.size))

pub overflow_sub-result : goal.overflow_sub-result
overflow_sub-result c =
    (kept c.args.volume.now.dthr c.args.bounds.now.place c.args.bounds.now.speed c.args.leg.now.velocity.flat.east c.args.leg.now.place.flat.east
    c.requires.volume.dthr c.requires.bounds.place c.requires.bounds.speed (leg.ve c.requires.leg) (leg.pe c.requires.leg)).1

pub overflow_mul-result-3 : goal.overflow_mul-result-3
overflow_mul-result-3 c =
    (kept c.args.volume.now.dthr c.args.bounds.now.place c.args.bounds.now.speed c.args.leg.now.velocity.flat.north c.args.leg.now.place.flat.north
    c.requires.volume.dthr c.requires.bounds.place c.requires.bounds.speed (leg.vn c.requires.leg) (leg.pn c.requires.leg)).0

pub overflow_sub-result-2 : goal.overflow_sub-result-2
overflow_sub-result-2 c =
    (kept c.args.volume.now.dthr c.args.bounds.now.place c.args.bounds.now.speed c.args.leg.now.velocity.flat.north c.args.leg.now.place.flat.north
    c.requires.volume.dthr c.requires.bounds.place c.requires.bounds.speed (leg.vn c.requires.leg) (leg.pn c.requires.leg)).1

pub returns : goal.returns
returns c =
    let east = kept c.args.volume.now.dthr c.args.bounds.now.place c.args.bounds.now.speed c.args.leg.now.velocity.flat.east c.args.leg.now.place.flat.east
    c.requires.volume.dthr c.requires.bounds.place c.requires.bounds.speed (leg.ve c.requires.leg) (leg.pe c.requires.leg) in
    let north = kept c.args.volume.now.dthr c.args.bounds.now.place c.args.bounds.now.speed c.args.leg.now.velocity.flat.north c.args.leg.now.place.flat.north
    c.requires.volume.dthr c.requires.bounds.place c.requires.bounds.speed (leg.vn c.requires.leg) (leg.pn c.requires.leg) in
    record { value = λ i. record { east = east.2 i; north = north.2 i }; short = record { east = east.3; north = north.3 } }
