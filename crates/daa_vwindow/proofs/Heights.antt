-- The heights that violate are a band.
use Rattle.std.proofs.Common.{[], ◌∷◌, ◌≡◌, ◌↔◌, ℕ, ◌*◌, ◌<◌, ◌≤◌, ◌⊎◌, inl, inr, ⊎_elim, sym, ap, subst, ◌∙◌, arith}
use Rattle.std.proofs.Common.{ℤ, pos, negsuc, ◌+ℤ◌, ◌*ℤ◌, ◌-ℤ◌, neg_ℤ, ◌≤ℤ◌, ◌<ℤ◌, unsigned_abs, Option, None, Some}
use Rattle.std.specs.Prelude.{MatchOption}
use Rattle.std.proofs.lemmas.Int.{ints}
use Rattle.daa_fixed.proofs.Ring.{mul_nonneg, ring, #, ⊝, ◌⊕◌, ◌⊗◌}
use Rattle.daa_fixed.proofs.Integers.{mul_le, clash}
use Rattle.daa_vwindow.proofs.Bands.{IsMax, turn}
use Rattle.daa_fixed.specs.Size.{IsWithin, IsFrom}
use Rattle.daa_fixed.proofs.Bounds.{times, within}
use Rattle.std.proofs.Common.{to_z, of_z, w64}
use Rattle.daa_fixed.specs.declared.Leg.{Leg}
use Rattle.daa_taumod.specs.declared.Volume.{Volume}
use Rattle.daa_fixed.specs.declared.Point.{Point}
use Rattle.daa_taumod.specs.Volume.{ViolatesVertically, height_at}
use Rattle.daa_fixed.specs.Time.{IsTime, HoldsNever}
use Rattle.daa_vwindow.specs.Inside.Band.{IsInBand}
use Rattle.daa_vwindow.specs.Window.{IsWindow}

-- a clause about the same times, said otherwise
pub retarget : (secs : ℕ) (P Q : ℤ → ℤ → Type 0) (r : Option (Point × Point))
    → ((n d : ℤ) → IsTime secs n d → (P n d ↔ Q n d))
    → MatchOption r (HoldsNever secs P) (λ (p, q). IsWindow secs P p q)
    → MatchOption r (HoldsNever secs Q) (λ (p, q). IsWindow secs Q p q)
retarget secs P Q None same h = λ n d t b. h n d t ((same n d t).1 b)
retarget secs P Q (Some w) same h = record {
  first = h.first;
  last = h.last;
  holds_first = (same w.0.num w.0.den h.first).0 h.holds_first;
  holds_last = (same w.1.num w.1.den h.last).0 h.holds_last;
  exact = λ n d t. ((λ b. (h.exact n d t).0 ((same n d t).1 b)), (λ b. (same n d t).0 ((h.exact n d t).1 b)));
}

-- within high, or nearing and within reach, is from m below to high above
pub record IsNearing (z a reach : ℤ) : Type 0 where
  pub nearing : (z *ℤ a) <ℤ pos 0
  pub soon : pos (unsigned_abs z) ≤ℤ reach

abbrev pub IsEither : ℤ → ℤ → ℤ → ℤ → Type 0
IsEither z a high reach = (pos (unsigned_abs z) ≤ℤ high) ⊎ IsNearing z a reach

not_nearing : (k : ℕ) (a : ℤ) → pos 1 ≤ℤ a → (pos k *ℤ a) <ℤ pos 0 → ⊥
not_nearing k a h l = clash (pos 0) (pos k *ℤ a) (mul_nonneg (pos k) a (omega (arith, ints)) (omega (arith, ints))) l

pub into_band : (z a high reach m : ℤ) → pos 1 ≤ℤ a → pos 0 ≤ℤ high → IsMax m high reach → IsEither z a high reach → IsFrom (neg_ℤ m) high z
into_band z a high reach m h k x (inl l) = record { least = omega (arith, ints, x.left); most = omega (arith, ints) }
into_band (pos z) a high reach m h k x (inr l) = absurd (not_nearing z a h l.nearing)
into_band (negsuc z) a high reach m h k x (inr l) = record { least = omega (arith, ints, x.right, l.soon); most = omega (arith, ints) }

pub from_band : (z a high reach m : ℤ) → pos 1 ≤ℤ a → IsMax m high reach → IsFrom (neg_ℤ m) high z → IsEither z a high reach
from_band (pos z) a high reach m h x b = inl b.most
from_band (negsuc z) (pos a) high reach m h x b = ⊎_elim
    (λ e. inl (omega (arith, ints, e, b.least)))
    (λ e. inr (record { nearing = omega (arith, ints); soon = omega (arith, ints, e, b.least) }))
    x.one
from_band (negsuc z) (negsuc a) high reach m h x b = absurd (omega (arith, ints))

-- ---- of a leg
abs-neg : (z : ℤ) → unsigned_abs (neg_ℤ z) ≡ unsigned_abs z
abs-neg z = omega (arith, ints)

abs-pos : (z : ℤ) → pos 1 ≤ℤ z → pos (unsigned_abs z) ≡ z
abs-pos z h = omega (arith, ints)

scaled_max : (m x y d : ℤ) → pos 0 ≤ℤ d → IsMax m x y → IsMax (m *ℤ d) (x *ℤ d) (y *ℤ d)
scaled_max m x y d h k = record {
  left = mul_le x m d h k.left;
  right = mul_le y m d h k.right;
  one = ⊎_elim (λ e. inl (ap (λ (z : ℤ). z *ℤ d) e)) (λ e. inr (ap (λ (z : ℤ). z *ℤ d) e)) k.one;
}

neg-times : (m d : ℤ) → neg_ℤ m *ℤ d ≡ neg_ℤ (m *ℤ d)
neg-times m d = let M = # 0 in let D = # 1 in ring (m ∷ d ∷ []) (⊝ M ⊗ D) (⊝ (M ⊗ D)) tt

-- what rises from h at a, where d h + n a is z
pub as_band : (h a m : ℤ) (high ahead : ℕ) (n d : ℤ) → pos 1 ≤ℤ a → pos 1 ≤ℤ d → IsMax m (pos high) (pos ahead *ℤ a)
    → IsEither (d *ℤ h +ℤ n *ℤ a) a (pos high *ℤ d) (pos ahead *ℤ d *ℤ a) ↔ IsInBand h a m (pos high) n d
as_band h a m high ahead n d ha hd x =
    let d0 : pos 0 ≤ℤ d = omega (arith, ints) in
    let y : IsMax (m *ℤ d) (pos high *ℤ d) (pos ahead *ℤ d *ℤ a) = subst (λ (z : ℤ). IsMax (m *ℤ d) (pos high *ℤ d) z) (turn (pos ahead) a d) (scaled_max m (pos high) (pos ahead *ℤ a) d d0 x) in
    let z = d *ℤ h +ℤ n *ℤ a in (
      (λ e. let f = into_band z a (pos high *ℤ d) (pos ahead *ℤ d *ℤ a) (m *ℤ d) ha (mul_nonneg (pos high) d (omega (arith, ints)) d0) y e in
          record { above = subst (λ (w : ℤ). w ≤ℤ z) (sym (neg-times m d)) f.least; below = f.most }),
      (λ b. from_band z a (pos high *ℤ d) (pos ahead *ℤ d *ℤ a) (m *ℤ d) ha y
          (record { least = subst (λ (w : ℤ). w ≤ℤ z) (neg-times m d) b.above; most = b.below })),
    )

module _ (leg : Leg) (volume : Volume) where
  pub rising : (m : ℤ) → pos 1 ≤ℤ leg.velocity.up
      → IsMax m (pos volume.zthr) (pos volume.tcoa *ℤ leg.velocity.up) → (n d : ℤ) → IsTime leg.secs n d
      → IsInBand leg.place.up leg.velocity.up m (pos volume.zthr) n d ↔ ViolatesVertically leg volume n d
  rising m ha x n d t =
      let same = as_band leg.place.up leg.velocity.up m volume.zthr volume.tcoa n d ha t.fraction x in
      let size : pos (unsigned_abs leg.velocity.up) ≡ leg.velocity.up = abs-pos leg.velocity.up ha in (
        (λ b. ⊎_elim inl (λ e. inr (record { nearing = e.nearing; soon = rw size e.soon })) (same.1 b)),
        (λ v. same.0 (⊎_elim inl (λ e. inr (record { nearing = e.nearing; soon = rw size at e.soon })) v)),
      )

  mirror : (n d : ℤ) → d *ℤ neg_ℤ leg.place.up +ℤ n *ℤ neg_ℤ leg.velocity.up ≡ neg_ℤ (height_at leg n d)
  mirror n d =
      let H = # 0 in let W = # 1 in let N = # 2 in let D = # 3 in
      ring (leg.place.up ∷ leg.velocity.up ∷ n ∷ d ∷ []) (D ⊗ ⊝ H ⊕ N ⊗ ⊝ W) (⊝ (D ⊗ H ⊕ N ⊗ W)) tt

  mirror_size : (n d : ℤ) → unsigned_abs (d *ℤ neg_ℤ leg.place.up +ℤ n *ℤ neg_ℤ leg.velocity.up) ≡ unsigned_abs (height_at leg n d)
  mirror_size n d = ap unsigned_abs (mirror n d) ∙ abs-neg (height_at leg n d)

  mirror_turn : (n d : ℤ) → (d *ℤ neg_ℤ leg.place.up +ℤ n *ℤ neg_ℤ leg.velocity.up) *ℤ neg_ℤ leg.velocity.up ≡ height_at leg n d *ℤ leg.velocity.up
  mirror_turn n d =
      let H = # 0 in let W = # 1 in let N = # 2 in let D = # 3 in
      ring (leg.place.up ∷ leg.velocity.up ∷ n ∷ d ∷ []) ((D ⊗ ⊝ H ⊕ N ⊗ ⊝ W) ⊗ ⊝ W) ((D ⊗ H ⊕ N ⊗ W) ⊗ W) tt

  pub falling : (m : ℤ)
      → leg.velocity.up <ℤ pos 0 → IsMax m (pos volume.zthr) (pos volume.tcoa *ℤ neg_ℤ leg.velocity.up)
      → (n d : ℤ) → IsTime leg.secs n d → IsInBand (neg_ℤ leg.place.up) (neg_ℤ leg.velocity.up) m (pos volume.zthr) n d
      ↔ ViolatesVertically leg volume n d
  falling m ha x n d t =
      let a1 : pos 1 ≤ℤ neg_ℤ leg.velocity.up = omega (arith, ints) in
      let same = as_band (neg_ℤ leg.place.up) (neg_ℤ leg.velocity.up) m volume.zthr volume.tcoa n d a1 t.fraction x in
      let size : pos (unsigned_abs leg.velocity.up) ≡ neg_ℤ leg.velocity.up = ap pos (sym (abs-neg leg.velocity.up)) ∙ abs-pos (neg_ℤ leg.velocity.up) a1 in (
        (λ b. ⊎_elim
            (λ l. inl (rw (mirror_size n d) at l))
            (λ e. inr (record { nearing = rw (mirror_turn n d) at e.nearing; soon = rw size (rw (mirror_size n d) at e.soon) }))
            (same.1 b)),
        (λ v. same.0 (⊎_elim
            (λ l. inl (rw (mirror_size n d) l))
            (λ e. inr (record { nearing = rw (mirror_turn n d) e.nearing; soon = rw (mirror_size n d) (rw size at e.soon) }))
            v)),
      )

  pub standing : leg.velocity.up ≡ pos 0 → (n d : ℤ) → IsTime leg.secs n d → IsInBand leg.place.up (pos 0) (pos volume.zthr) (pos volume.zthr) n d ↔ ViolatesVertically leg volume n d
  standing e n d t =
      let z : height_at leg n d ≡ d *ℤ leg.place.up +ℤ n *ℤ pos 0 = ap (λ (w : ℤ). d *ℤ leg.place.up +ℤ n *ℤ w) e in (
        (λ b. inl (rw z (size_in (d *ℤ leg.place.up +ℤ n *ℤ pos 0) (pos volume.zthr *ℤ d) (rw (← neg-times (pos volume.zthr) d) b.above) b.below))),
        (λ v. ⊎_elim
            (λ l. let s = size_out (d *ℤ leg.place.up +ℤ n *ℤ pos 0) (pos volume.zthr *ℤ d) (rw z at l) in record { above = rw (neg-times (pos volume.zthr) d) s.0; below = s.1 })
            (λ l. absurd (no_turn (height_at leg n d) leg.velocity.up e l.nearing))
            v),
      )
    where
      size_in : (z b : ℤ) → neg_ℤ b ≤ℤ z → z ≤ℤ b → pos (unsigned_abs z) ≤ℤ b
      size_in z b h k = omega (arith, ints)

      size_out : (z b : ℤ) → pos (unsigned_abs z) ≤ℤ b → (neg_ℤ b ≤ℤ z) × (z ≤ℤ b)
      size_out z b h = omega (arith, ints)

      no_turn : (z w : ℤ) → w ≡ pos 0 → (z *ℤ w) <ℤ pos 0 → ⊥
      no_turn z w e h = clash (pos 0) (z *ℤ pos 0) (omega (arith, ints)) (subst (λ (x : ℤ). (z *ℤ x) <ℤ pos 0) e h)

-- ---- what the code keeps
pub up_kept : (x : ℤ) → unsigned_abs x < 40000000 → to_z w64 (of_z w64 x) ≡ x
up_kept x h = omega (arith, ints)

pub down_kept : (x : ℤ) → unsigned_abs x < 40000000 → to_z w64 (of_z w64 (pos 0 -ℤ to_z w64 (of_z w64 x))) ≡ neg_ℤ x
down_kept x h = omega (arith, ints)

-- the height gained in the time to co-altitude
pub gain : (secs : ℕ) (a : ℤ) → secs ≤ 120 → pos 1 ≤ℤ a → a ≤ℤ pos 40000 → IsWithin (120 * 40000) (pos secs *ℤ a)
gain secs a short a1 slow = times (within 120 (pos secs) (omega (arith, ints)) (omega (arith, ints))) (within 40000 a (omega (arith, ints)) slow)

pub max_small : {m : ℤ} {z : ℕ} {y : ℤ} → z ≤ 600000 → IsWithin (120 * 40000) y → IsMax m (pos z) y → IsWithin 40000000 m
max_small {m} {z} {y} h k x = ⊎_elim
    (λ e. record { size = omega (arith, ints, e, h) })
    (λ e. record { size = omega (arith, ints, e, k.size) })
    x.one
