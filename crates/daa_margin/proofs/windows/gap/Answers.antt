use Rattle.std.proofs.Common.{◌≡◌, ◌≤◌, ◌*◌, ℕ, ℤ, pos, ⊎_elim, ap, ◌-ℤ◌, ◌*ℤ◌, lit<, arith, rules, FitsSigned, w64, to_z-of_z}
use Rattle.std.proofs.lemmas.Int.{ints}
use Rattle.std.specs.Int.{int_max}
use Rattle.daa_fixed.specs.Size.{IsWithin}
use Rattle.daa_fixed.proofs.Bounds.{times, minus, fits}
use Rattle.daa_fixed.proofs.LegSizes.{natural}
use Rattle.daa_vwindow.proofs.Bands.{IsMax, max_is}
use Rattle.daa_margin.proofs.MomentSizes.{small_kept}
use Rattle.daa_margin.proofs.windows.gap.Goals as goal

max_small : (m : ℤ) (z : ℕ) (y : ℤ) → z ≤ 600000 → IsWithin (120 * 60000) y → IsMax m (pos z) y → IsWithin (120 * 60000) m
max_small m z y h k x = ⊎_elim
    (λ e. record { size = omega (arith, ints, e, h) })
    (λ e. record { size = omega (arith, ints, e, k.size) })
    x.one

pub returns : goal.returns
returns c =
    let z = small_kept c.args.volume.now.zthr (omega (arith, c.requires.volume.zthr)) in
    let t = small_kept c.args.volume.now.tcoa (omega (arith, c.requires.volume.tcoa)) in
    let wl = times (natural 120 c.args.volume.now.tcoa c.requires.volume.tcoa) c.requires.nearing in
    let f1 = fits w64 c.requires.nearing (lit< tt) in
    let f2 = fits w64 wl (lit< tt) in
    let f3 = fits w64 c.requires.over (lit< tt) in
    let most = simp (z, t, to_z-of_z) at c.max.ensures.value in
    let wm = max_small c.max.result c.args.volume.now.zthr _ c.requires.volume.zthr wl (max_is _ _ most) in
    let all = minus c.requires.over wm in
    let f4 = fits w64 wm (lit< tt) in
    let f5 = fits w64 all (lit< tt) in
    simp to_z-of_z (record { value = ap (λ (m : ℤ). c.args.over -ℤ m) most; size = record { size = omega (arith, all.size) } })
