use Rattle.std.proofs.Common.{◌≡◌, ◌^◌, ℤ, pos, ◌+ℤ◌, ◌*ℤ◌, lit<, refl, arith, FitsSigned, w64, to_z, of_z, to_z-of_z}
use mir.Syntax.{w128}
use Rattle.daa_fixed.specs.Size.{IsWithin}
use Rattle.daa_fixed.specs.Flat.{square_of}
use Rattle.daa_fixed.proofs.Bounds.{times, plus, fits}
use Rattle.daa_margin.proofs.soon.room.Goals as goal

two : IsWithin 2 (pos 2)
two = record { size = omega arith }

-- a number of 64 bits in 128, and what is computed with it
abbrev wide : ℤ → ℤ
wide z = to_z w128 (of_z w128 (to_z w64 (of_z w64 z)))

abbrev whole : ℤ → ℤ
whole z = to_z w128 (of_z w128 z)

abbrev left : (d w : ℤ) → ℤ
left d w = whole (wide d *ℤ wide d) *ℤ wide w

abbrev twice : (d r : ℤ) → ℤ
twice d r = pos 2 *ℤ whole (wide d *ℤ wide r)

abbrev middle : (d r e : ℤ) → ℤ
middle d r e = whole (twice d r) *ℤ wide e

abbrev part : (d w r e : ℤ) → ℤ
part d w r e = whole (left d w) +ℤ whole (middle d r e)

abbrev all : (d w r e : ℤ) → ℤ
all d w r e = whole (part d w r e) +ℤ whole (wide e *ℤ wide e)

-- nothing is lost
record IsKept (d w r e : ℤ) : Type 0 where
  pub fits_left : FitsSigned w128 (left d w)
  pub fits_twice : FitsSigned w128 (twice d r)
  pub fits_middle : FitsSigned w128 (middle d r e)
  pub fits_part : FitsSigned w128 (part d w r e)
  pub fits_all : FitsSigned w128 (all d w r e)
  pub value : whole (all d w r e) ≡ square_of d *ℤ w +ℤ pos 2 *ℤ (d *ℤ r) *ℤ e +ℤ square_of e

kept : (d w r e : ℤ) → IsWithin (2 ^ 33) d → IsWithin (2 ^ 48) w → IsWithin (2 ^ 25) r → IsWithin (2 ^ 60) e → IsKept d w r e
kept d w r e hd hw hr he =
    let d1 = fits w64 hd (lit< tt) in
    let d2 = fits w128 hd (lit< tt) in
    let w1 = fits w64 hw (lit< tt) in
    let w2 = fits w128 hw (lit< tt) in
    let r1 = fits w64 hr (lit< tt) in
    let r2 = fits w128 hr (lit< tt) in
    let e1 = fits w64 he (lit< tt) in
    let e2 = fits w128 he (lit< tt) in
    let dd = fits w128 (times hd hd) (lit< tt) in
    let ee = fits w128 (times he he) (lit< tt) in
    let dr = fits w128 (times hd hr) (lit< tt) in
    let f1 = fits w128 (times (times hd hd) hw) (lit< tt) in
    let f2 = fits w128 (times two (times hd hr)) (lit< tt) in
    let f3 = fits w128 (times (times two (times hd hr)) he) (lit< tt) in
    let f4 = fits w128 (plus (times (times hd hd) hw) (times (times two (times hd hr)) he)) (lit< tt) in
    let f5 = fits w128 (plus (plus (times (times hd hd) hw) (times (times two (times hd hr)) he)) (times he he)) (lit< tt) in
    record {
      fits_left = simp to_z-of_z f1;
      fits_twice = simp to_z-of_z f2;
      fits_middle = simp to_z-of_z f3;
      fits_part = simp to_z-of_z f4;
      fits_all = simp to_z-of_z f5;
      value = simp to_z-of_z;
    }

pub overflow_mul-result-2 : goal.overflow_mul-result-2
overflow_mul-result-2 c = (kept c.args.den c.args.within c.args.reach c.args.error c.requires.den c.requires.within c.requires.reach c.requires.error).fits_left

pub overflow_mul-result-4 : goal.overflow_mul-result-4
overflow_mul-result-4 c = (kept c.args.den c.args.within c.args.reach c.args.error c.requires.den c.requires.within c.requires.reach c.requires.error).fits_twice

pub overflow_mul-result-5 : goal.overflow_mul-result-5
overflow_mul-result-5 c = (kept c.args.den c.args.within c.args.reach c.args.error c.requires.den c.requires.within c.requires.reach c.requires.error).fits_middle

pub overflow_add-result : goal.overflow_add-result
overflow_add-result c = (kept c.args.den c.args.within c.args.reach c.args.error c.requires.den c.requires.within c.requires.reach c.requires.error).fits_part

pub overflow_add-result-2 : goal.overflow_add-result-2
overflow_add-result-2 c = (kept c.args.den c.args.within c.args.reach c.args.error c.requires.den c.requires.within c.requires.reach c.requires.error).fits_all

pub returns : goal.returns
returns c = (kept c.args.den c.args.within c.args.reach c.args.error c.requires.den c.requires.within c.requires.reach c.requires.error).value
