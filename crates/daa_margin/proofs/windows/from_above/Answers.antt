use Rattle.std.proofs.Common.{◌≡◌, ◌*◌, ◌+◌, ℤ, pos, neg_ℤ, sym, subst, Option, Bool, false, ◌+ℤ◌, ◌-ℤ◌, ◌*ℤ◌, lit<, arith, w64, to_z-of_z}
use Rattle.std.specs.Prelude.{IsTrue, MatchOption}
use Rattle.std.proofs.lemmas.Int.{ints, by_lt_z}
use Rattle.daa_fixed.specs.Size.{IsWithin}
use Rattle.daa_fixed.specs.declared.Point.{Point}
use Rattle.daa_fixed.specs.Point.{IsInOrder}
use Rattle.daa_fixed.specs.Time.{HoldsNever}
use Rattle.daa_fixed.proofs.Integers.{sum_nonneg}
use Rattle.daa_fixed.proofs.Bounds.{plus, minus, fits, zero_less}
use Rattle.daa_fixed.proofs.LegSizes.{natural}
use Rattle.daa_vwindow.specs.Window.{IsWindow}
use Rattle.daa_margin.specs.Inside.Heights.{IsReached, IsInReach}
use Rattle.daa_margin.proofs.MomentSizes.{small_kept}
use Rattle.daa_margin.proofs.Stretches.{earlier_is, in_reach, out_of_reach}
use Rattle.daa_margin.proofs.windows.from_above.Goals as goal

turned_within : (x : ℤ) → IsWithin 40000 x → IsWithin 40000 (neg_ℤ x)
turned_within x h = record { size = omega (arith, ints, h.size) }

not_true : (b : Bool) → b ≡ false → IsTrue b → ⊥
not_true b e h = absurd (cc (h, e))

pub overflow_add-height : goal.overflow_add-height
overflow_add-height c =
    let e1 = small_kept c.args.bounds.now.height (omega (arith, c.requires.bounds.height)) in
    let e2 = small_kept c.args.bounds.now.climb (omega (arith, c.requires.bounds.climb)) in
    let e3 = small_kept c.args.volume.now.zthr (omega (arith, c.requires.volume.zthr)) in
    let wa = natural 6000000 c.args.bounds.now.height c.requires.bounds.height in
    let wb = natural 20000 c.args.bounds.now.climb c.requires.bounds.climb in
    let wz = natural 600000 c.args.volume.now.zthr c.requires.volume.zthr in
    let down = turned_within c.args.speed c.requires.speed in
    let room = plus (plus c.requires.height wa) wz in
    let pace = minus down wb in
    let f1 = fits w64 c.requires.height (lit< tt) in
    let f2 = fits w64 c.requires.speed (lit< tt) in
    let f3 = fits w64 (plus c.requires.height wa) (lit< tt) in
    let f4 = fits w64 room (lit< tt) in
    let f5 = fits w64 down (lit< tt) in
    let f6 = fits w64 pace (lit< tt) in
    simp (e1, to_z-of_z) f3

pub overflow_add-height-2 : goal.overflow_add-height-2
overflow_add-height-2 c =
    let e1 = small_kept c.args.bounds.now.height (omega (arith, c.requires.bounds.height)) in
    let e2 = small_kept c.args.bounds.now.climb (omega (arith, c.requires.bounds.climb)) in
    let e3 = small_kept c.args.volume.now.zthr (omega (arith, c.requires.volume.zthr)) in
    let wa = natural 6000000 c.args.bounds.now.height c.requires.bounds.height in
    let wb = natural 20000 c.args.bounds.now.climb c.requires.bounds.climb in
    let wz = natural 600000 c.args.volume.now.zthr c.requires.volume.zthr in
    let down = turned_within c.args.speed c.requires.speed in
    let room = plus (plus c.requires.height wa) wz in
    let pace = minus down wb in
    let f1 = fits w64 c.requires.height (lit< tt) in
    let f2 = fits w64 c.requires.speed (lit< tt) in
    let f3 = fits w64 (plus c.requires.height wa) (lit< tt) in
    let f4 = fits w64 room (lit< tt) in
    let f5 = fits w64 down (lit< tt) in
    let f6 = fits w64 pace (lit< tt) in
    simp (e1, e3, to_z-of_z) f4

pub overflow_sub-speed : goal.overflow_sub-speed
overflow_sub-speed c =
    let e1 = small_kept c.args.bounds.now.height (omega (arith, c.requires.bounds.height)) in
    let e2 = small_kept c.args.bounds.now.climb (omega (arith, c.requires.bounds.climb)) in
    let e3 = small_kept c.args.volume.now.zthr (omega (arith, c.requires.volume.zthr)) in
    let wa = natural 6000000 c.args.bounds.now.height c.requires.bounds.height in
    let wb = natural 20000 c.args.bounds.now.climb c.requires.bounds.climb in
    let wz = natural 600000 c.args.volume.now.zthr c.requires.volume.zthr in
    let down = turned_within c.args.speed c.requires.speed in
    let room = plus (plus c.requires.height wa) wz in
    let pace = minus down wb in
    let f1 = fits w64 c.requires.height (lit< tt) in
    let f2 = fits w64 c.requires.speed (lit< tt) in
    let f3 = fits w64 (plus c.requires.height wa) (lit< tt) in
    let f4 = fits w64 room (lit< tt) in
    let f5 = fits w64 down (lit< tt) in
    let f6 = fits w64 pace (lit< tt) in
    simp (zero_less, to_z-of_z) f5

pub overflow_sub-speed-2 : goal.overflow_sub-speed-2
overflow_sub-speed-2 c =
    let e1 = small_kept c.args.bounds.now.height (omega (arith, c.requires.bounds.height)) in
    let e2 = small_kept c.args.bounds.now.climb (omega (arith, c.requires.bounds.climb)) in
    let e3 = small_kept c.args.volume.now.zthr (omega (arith, c.requires.volume.zthr)) in
    let wa = natural 6000000 c.args.bounds.now.height c.requires.bounds.height in
    let wb = natural 20000 c.args.bounds.now.climb c.requires.bounds.climb in
    let wz = natural 600000 c.args.volume.now.zthr c.requires.volume.zthr in
    let down = turned_within c.args.speed c.requires.speed in
    let room = plus (plus c.requires.height wa) wz in
    let pace = minus down wb in
    let f1 = fits w64 c.requires.height (lit< tt) in
    let f2 = fits w64 c.requires.speed (lit< tt) in
    let f3 = fits w64 (plus c.requires.height wa) (lit< tt) in
    let f4 = fits w64 room (lit< tt) in
    let f5 = fits w64 down (lit< tt) in
    let f6 = fits w64 pace (lit< tt) in
    simp (zero_less, e2, to_z-of_z) f6

pub last_kept-end-requires-clause-not_negative : goal.last_kept-end-requires-clause-not_negative
last_kept-end-requires-clause-not_negative c =
    let e1 = small_kept c.args.bounds.now.height (omega (arith, c.requires.bounds.height)) in
    let e2 = small_kept c.args.bounds.now.climb (omega (arith, c.requires.bounds.climb)) in
    let e3 = small_kept c.args.volume.now.zthr (omega (arith, c.requires.volume.zthr)) in
    let wa = natural 6000000 c.args.bounds.now.height c.requires.bounds.height in
    let wb = natural 20000 c.args.bounds.now.climb c.requires.bounds.climb in
    let wz = natural 600000 c.args.volume.now.zthr c.requires.volume.zthr in
    let down = turned_within c.args.speed c.requires.speed in
    let room = plus (plus c.requires.height wa) wz in
    let pace = minus down wb in
    let f1 = fits w64 c.requires.height (lit< tt) in
    let f2 = fits w64 c.requires.speed (lit< tt) in
    let f3 = fits w64 (plus c.requires.height wa) (lit< tt) in
    let f4 = fits w64 room (lit< tt) in
    let f5 = fits w64 down (lit< tt) in
    let f6 = fits w64 pace (lit< tt) in
    simp (e1, e3, to_z-of_z) (sum_nonneg _ _ (sum_nonneg _ _ c.requires.above (omega (arith, ints))) (omega (arith, ints)))

pub last_kept-end-requires-clause-room : goal.last_kept-end-requires-clause-room
last_kept-end-requires-clause-room c =
    let e1 = small_kept c.args.bounds.now.height (omega (arith, c.requires.bounds.height)) in
    let e2 = small_kept c.args.bounds.now.climb (omega (arith, c.requires.bounds.climb)) in
    let e3 = small_kept c.args.volume.now.zthr (omega (arith, c.requires.volume.zthr)) in
    let wa = natural 6000000 c.args.bounds.now.height c.requires.bounds.height in
    let wb = natural 20000 c.args.bounds.now.climb c.requires.bounds.climb in
    let wz = natural 600000 c.args.volume.now.zthr c.requires.volume.zthr in
    let down = turned_within c.args.speed c.requires.speed in
    let room = plus (plus c.requires.height wa) wz in
    let pace = minus down wb in
    let f1 = fits w64 c.requires.height (lit< tt) in
    let f2 = fits w64 c.requires.speed (lit< tt) in
    let f3 = fits w64 (plus c.requires.height wa) (lit< tt) in
    let f4 = fits w64 room (lit< tt) in
    let f5 = fits w64 down (lit< tt) in
    let f6 = fits w64 pace (lit< tt) in
    simp (e1, e3, to_z-of_z) (record { size = omega (arith, room.size) })

pub last_kept-end-requires-clause-pace : goal.last_kept-end-requires-clause-pace
last_kept-end-requires-clause-pace c =
    let e1 = small_kept c.args.bounds.now.height (omega (arith, c.requires.bounds.height)) in
    let e2 = small_kept c.args.bounds.now.climb (omega (arith, c.requires.bounds.climb)) in
    let e3 = small_kept c.args.volume.now.zthr (omega (arith, c.requires.volume.zthr)) in
    let wa = natural 6000000 c.args.bounds.now.height c.requires.bounds.height in
    let wb = natural 20000 c.args.bounds.now.climb c.requires.bounds.climb in
    let wz = natural 600000 c.args.volume.now.zthr c.requires.volume.zthr in
    let down = turned_within c.args.speed c.requires.speed in
    let room = plus (plus c.requires.height wa) wz in
    let pace = minus down wb in
    let f1 = fits w64 c.requires.height (lit< tt) in
    let f2 = fits w64 c.requires.speed (lit< tt) in
    let f3 = fits w64 (plus c.requires.height wa) (lit< tt) in
    let f4 = fits w64 room (lit< tt) in
    let f5 = fits w64 down (lit< tt) in
    let f6 = fits w64 pace (lit< tt) in
    simp (zero_less, e2, to_z-of_z) (record { size = omega (arith, pace.size) })

pub returns-in_err-first : goal.returns-in_err-first
returns-in_err-first c =
    let e1 = small_kept c.args.bounds.now.height (omega (arith, c.requires.bounds.height)) in
    let e2 = small_kept c.args.bounds.now.climb (omega (arith, c.requires.bounds.climb)) in
    let wa = natural 6000000 c.args.bounds.now.height c.requires.bounds.height in
    let wb = natural 20000 c.args.bounds.now.climb c.requires.bounds.climb in
    let f1 = fits w64 c.requires.height (lit< tt) in
    let f2 = fits w64 c.requires.speed (lit< tt) in
    let f3 = fits w64 (minus c.requires.height wa) (lit< tt) in
    let f4 = fits w64 (minus wb c.requires.speed) (lit< tt) in
    let f5 = fits w64 c.gap.ensures.size (lit< tt) in
    let gap = simp (e1, e2, to_z-of_z) at c.gap.ensures.value in
    let never = subst (λ (g : ℤ). HoldsNever c.args.secs (IsReached g (pos c.args.bounds.now.climb -ℤ c.args.speed))) gap (simp (e2, to_z-of_z) at c.in_err-first.ensures) in
    subst (λ (r : Option (Point × Point)). MatchOption r (HoldsNever c.args.secs (IsInReach c.args.height c.args.speed c.args.volume.now c.args.bounds.now))
    (λ x. IsWindow c.args.secs (IsInReach c.args.height c.args.speed c.args.volume.now c.args.bounds.now) x.0 x.1))
    (sym c.from_residual.ensures) (λ n d t k. never n d t k.reached)

pub returns-then-over : goal.returns-then-over
returns-then-over c =
    let e1 = small_kept c.args.bounds.now.height (omega (arith, c.requires.bounds.height)) in
    let e2 = small_kept c.args.bounds.now.climb (omega (arith, c.requires.bounds.climb)) in
    let e3 = small_kept c.args.volume.now.zthr (omega (arith, c.requires.volume.zthr)) in
    let wa = natural 6000000 c.args.bounds.now.height c.requires.bounds.height in
    let wb = natural 20000 c.args.bounds.now.climb c.requires.bounds.climb in
    let wz = natural 600000 c.args.volume.now.zthr c.requires.volume.zthr in
    let down = turned_within c.args.speed c.requires.speed in
    let f1 = fits w64 c.requires.height (lit< tt) in
    let f2 = fits w64 c.requires.speed (lit< tt) in
    let f3 = fits w64 (minus c.requires.height wa) (lit< tt) in
    let f4 = fits w64 (minus wb c.requires.speed) (lit< tt) in
    let f5 = fits w64 c.gap.ensures.size (lit< tt) in
    let f6 = fits w64 (plus c.requires.height wa) (lit< tt) in
    let f7 = fits w64 (plus (plus c.requires.height wa) wz) (lit< tt) in
    let f8 = fits w64 down (lit< tt) in
    let f9 = fits w64 (minus down wb) (lit< tt) in
    let gap = simp (e1, e2, to_z-of_z) at c.gap.ensures.value in
    let first = c.in_ok-first.first in
    let last = c.in_ok-first.last in
    let window = subst (λ (g : ℤ). IsWindow c.args.secs (IsReached g (pos c.args.bounds.now.climb -ℤ c.args.speed)) first last) gap (simp (e2, to_z-of_z) at c.in_ok-first.ensures) in
    let kept = simp (e1, e2, e3, to_z-of_z, zero_less) at c.last_kept-end.ensures in
    let sooner = earlier_is last c.last_kept-end.result c.earlier-upto.result c.earlier-upto.ensures.second c.earlier-upto.ensures.first in
    out_of_reach c.args.secs c.args.height c.args.speed c.args.volume.now c.args.bounds.now first last c.last_kept-end.result c.earlier-upto.result window kept sooner
    (c.before-over.ensures.0 c.if-over.true)

pub returns-else-over : goal.returns-else-over
returns-else-over c =
    let e1 = small_kept c.args.bounds.now.height (omega (arith, c.requires.bounds.height)) in
    let e2 = small_kept c.args.bounds.now.climb (omega (arith, c.requires.bounds.climb)) in
    let e3 = small_kept c.args.volume.now.zthr (omega (arith, c.requires.volume.zthr)) in
    let wa = natural 6000000 c.args.bounds.now.height c.requires.bounds.height in
    let wb = natural 20000 c.args.bounds.now.climb c.requires.bounds.climb in
    let wz = natural 600000 c.args.volume.now.zthr c.requires.volume.zthr in
    let down = turned_within c.args.speed c.requires.speed in
    let f1 = fits w64 c.requires.height (lit< tt) in
    let f2 = fits w64 c.requires.speed (lit< tt) in
    let f3 = fits w64 (minus c.requires.height wa) (lit< tt) in
    let f4 = fits w64 (minus wb c.requires.speed) (lit< tt) in
    let f5 = fits w64 c.gap.ensures.size (lit< tt) in
    let f6 = fits w64 (plus c.requires.height wa) (lit< tt) in
    let f7 = fits w64 (plus (plus c.requires.height wa) wz) (lit< tt) in
    let f8 = fits w64 down (lit< tt) in
    let f9 = fits w64 (minus down wb) (lit< tt) in
    let gap = simp (e1, e2, to_z-of_z) at c.gap.ensures.value in
    let first = c.in_ok-first.first in
    let last = c.in_ok-first.last in
    let upto = c.earlier-upto.result in
    let window = subst (λ (g : ℤ). IsWindow c.args.secs (IsReached g (pos c.args.bounds.now.climb -ℤ c.args.speed)) first last) gap (simp (e2, to_z-of_z) at c.in_ok-first.ensures) in
    let kept = simp (e1, e2, e3, to_z-of_z, zero_less) at c.last_kept-end.ensures in
    let sooner = earlier_is last c.last_kept-end.result upto c.earlier-upto.ensures.second c.earlier-upto.ensures.first in
    let order : IsInOrder first upto = by_lt_z (upto.num *ℤ first.den) (first.num *ℤ upto.den) (λ l. absurd (not_true c.before-over.result c.if-over.false (c.before-over.ensures.1 l))) (λ k. k) in
    in_reach c.args.secs c.args.height c.args.speed c.args.volume.now c.args.bounds.now first last c.last_kept-end.result upto window kept sooner order
