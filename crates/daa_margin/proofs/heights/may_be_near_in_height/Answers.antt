use Rattle.std.proofs.Common.{◌≡◌, ◌^◌, ℤ, pos, unsigned_abs, ◌+ℤ◌, ◌*ℤ◌, ap, ◌∙◌, lit<, arith, rules, w64, to_z-of_z}
use Rattle.daa_fixed.specs.Size.{IsWithin}
use Rattle.daa_fixed.proofs.Bounds.{times, plus, fits, as_within, le_test}
use Rattle.daa_fixed.proofs.LegSizes.{natural}
use Rattle.daa_margin.proofs.MomentSizes as size
use Rattle.daa_margin.proofs.MomentSizes.{IsMomentInRange, small_kept}
use Rattle.daa_margin.proofs.heights.may_be_near_in_height.Goals as goal

pub overflow_add-result : goal.overflow_add-result
overflow_add-result c =
    let t : IsMomentInRange c.args.moment.now = search rules in
    let e = small_kept c.args.volume.now.zthr (omega (arith, c.requires.volume.zthr)) in
    let wz = times (natural 600000 c.args.volume.now.zthr c.requires.volume.zthr) (size.d t) in
    let we = c.height_error.ensures.size in
    let f1 = fits w64 (size.d t) (lit< tt) in
    let f2 = fits w64 wz (lit< tt) in
    let f3 = fits w64 we (lit< tt) in
    simp (e, to_z-of_z) (fits w64 (plus wz we) (lit< tt))

pub returns : goal.returns
returns c =
    let t : IsMomentInRange c.args.moment.now = search rules in
    let e = small_kept c.args.volume.now.zthr (omega (arith, c.requires.volume.zthr)) in
    let wz = times (natural 600000 c.args.volume.now.zthr c.requires.volume.zthr) (size.d t) in
    let we = c.height_error.ensures.size in
    let wh : IsWithin (2 ^ 59) c.height_then.result = c.height_then.ensures.size in
    let height : c.abs-height.result ≡ pos (unsigned_abs c.height_then.result) = c.abs-height.ensures.value ∙ ap (λ (w : ℤ). pos (unsigned_abs w)) (to_z-of_z (fits w64 wh (lit< tt))) in
    let wa : IsWithin (2 ^ 59) c.abs-height.result = as_within height (natural (2 ^ 59) (unsigned_abs c.height_then.result) wh.size) in
    let f1 = fits w64 (size.d t) (lit< tt) in
    let f2 = fits w64 wz (lit< tt) in
    let f3 = fits w64 we (lit< tt) in
    let f4 = fits w64 (plus wz we) (lit< tt) in
    let f5 = fits w64 wa (lit< tt) in
    simp (e, to_z-of_z) (le_test _ _ _ _ (height ∙ ap (λ (w : ℤ). pos (unsigned_abs w)) c.height_then.ensures.value)
    (λ i. pos c.args.volume.now.zthr *ℤ c.args.moment.now.den +ℤ c.height_error.ensures.value i))
