-- When a height is within a band: a bound on the height is one on the time, since the speed is not negative.
use Rattle.std.proofs.Common.{[], ◌∷◌, ◌≡◌, ℕ, ◌*◌, ◌≤◌, ◌⊎◌, inl, inr, ⊎_elim, refl, sym, subst, arith, ℤ, pos, negsuc, ◌+ℤ◌, ◌*ℤ◌, ◌-ℤ◌, neg_ℤ, ◌≤ℤ◌, ◌<ℤ◌, unsigned_abs, Bool, true, false, cond}
use Rattle.std.specs.Int.{int_max, int_min}
use Rattle.std.proofs.lemmas.Int.{ints, int_max_is, int_min_is}
use lib.Signed.{lt_z}
use Rattle.std.proofs.Math.IntN.{zero-*ℤ}
use Rattle.daa_fixed.proofs.Ring.{mul_nonneg, ring, #, lit, ⊝, ◌⊕◌, ◌⊖◌, ◌⊗◌}
use Rattle.daa_fixed.proofs.Integers.{mul_le, mul_lt, le_trans_ℤ, clash}
use Rattle.daa_fixed.specs.Size.{IsWithin}
use Rattle.daa_fixed.proofs.Bounds.{times, within}
use Rattle.daa_fixed.specs.declared.Point.{Point}
use Rattle.daa_fixed.specs.Time.{IsTime, HoldsNever}
use Rattle.daa_vwindow.specs.Inside.Band.{IsInBand}
use Rattle.daa_vwindow.specs.Window.{IsWindow}

-- m is the greater, or the lesser, of x and y
pub record IsMax (m x y : ℤ) : Type 0 where
  pub left : x ≤ℤ m
  pub right : y ≤ℤ m
  pub one : (m ≡ x) ⊎ (m ≡ y)

pub record IsMin (m x y : ℤ) : Type 0 where
  pub left : m ≤ℤ x
  pub right : m ≤ℤ y
  pub one : (m ≡ x) ⊎ (m ≡ y)

cond_one : (b : Bool) (x y : ℤ) → (cond b x y ≡ x) ⊎ (cond b x y ≡ y)
cond_one true x y = inl refl
cond_one false x y = inr refl

pub max_is : {m : ℤ} (x y : ℤ) → m ≡ int_max x y → IsMax m x y
max_is {m} x y e = record {
  left = omega (arith, ints, int_max_is x y);
  right = omega (arith, ints, int_max_is x y);
  one = subst (λ (z : ℤ). (z ≡ x) ⊎ (z ≡ y)) (sym e) (cond_one (lt_z y x) x y);
}

pub min_is : {m : ℤ} (x y : ℤ) → m ≡ int_min x y → IsMin m x y
min_is {m} x y e = record {
  left = omega (arith, ints, int_min_is x y);
  right = omega (arith, ints, int_min_is x y);
  one = subst (λ (z : ℤ). (z ≡ x) ⊎ (z ≡ y)) (sym e) (swapped (cond_one (lt_z y x) y x));
}
  where
    swapped : {A B : Type 0} → A ⊎ B → B ⊎ A
    swapped (inl a) = inr a
    swapped (inr b) = inl b

-- ---- a bound on the height is one on the time
split_low : (h low d : ℤ) → (neg_ℤ low -ℤ h) *ℤ d ≡ neg_ℤ low *ℤ d -ℤ d *ℤ h
split_low h low d = let H = # 0 in let L = # 1 in let D = # 2 in ring (h ∷ low ∷ d ∷ []) ((⊝ L ⊖ H) ⊗ D) (⊝ L ⊗ D ⊖ D ⊗ H) tt

lower : (h a low n d : ℤ) → (neg_ℤ low *ℤ d) ≤ℤ (d *ℤ h +ℤ n *ℤ a) → ((neg_ℤ low -ℤ h) *ℤ d) ≤ℤ (n *ℤ a)
lower h a low n d k = rw (split_low h low d) (move (neg_ℤ low *ℤ d) (d *ℤ h) (n *ℤ a) k)
  where
    move : (x y z : ℤ) → x ≤ℤ (y +ℤ z) → (x -ℤ y) ≤ℤ z
    move x y z h = omega (arith, ints)

raise : (h a low n d : ℤ) → ((neg_ℤ low -ℤ h) *ℤ d) ≤ℤ (n *ℤ a) → (neg_ℤ low *ℤ d) ≤ℤ (d *ℤ h +ℤ n *ℤ a)
raise h a low n d k = move (neg_ℤ low *ℤ d) (d *ℤ h) (n *ℤ a) (rw (← split_low h low d) k)
  where
    move : (x y z : ℤ) → (x -ℤ y) ≤ℤ z → x ≤ℤ (y +ℤ z)
    move x y z h = omega (arith, ints)

split_high : (h high d : ℤ) → (high -ℤ h) *ℤ d ≡ high *ℤ d -ℤ d *ℤ h
split_high h high d = let H = # 0 in let G = # 1 in let D = # 2 in ring (h ∷ high ∷ d ∷ []) ((G ⊖ H) ⊗ D) (G ⊗ D ⊖ D ⊗ H) tt

upper : (h a high n d : ℤ) → (d *ℤ h +ℤ n *ℤ a) ≤ℤ (high *ℤ d) → (n *ℤ a) ≤ℤ ((high -ℤ h) *ℤ d)
upper h a high n d k = rw (split_high h high d) (move (high *ℤ d) (d *ℤ h) (n *ℤ a) k)
  where
    move : (x y z : ℤ) → (y +ℤ z) ≤ℤ x → z ≤ℤ (x -ℤ y)
    move x y z h = omega (arith, ints)

sink : (h a high n d : ℤ) → (n *ℤ a) ≤ℤ ((high -ℤ h) *ℤ d) → (d *ℤ h +ℤ n *ℤ a) ≤ℤ (high *ℤ d)
sink h a high n d k = move (high *ℤ d) (d *ℤ h) (n *ℤ a) (rw (← split_high h high d) k)
  where
    move : (x y z : ℤ) → z ≤ℤ (x -ℤ y) → (y +ℤ z) ≤ℤ x
    move x y z h = omega (arith, ints)

pub turn : (t a d : ℤ) → t *ℤ a *ℤ d ≡ t *ℤ d *ℤ a
turn t a d = let T = # 0 in let A = # 1 in let D = # 2 in ring (t ∷ a ∷ d ∷ []) (T ⊗ A ⊗ D) (T ⊗ D ⊗ A) tt

-- ---- what rises from h at a: first and last time, times a
module _ (secs : ℕ) (h a low high f l : ℤ) (a1 : pos 1 ≤ℤ a) (fm : IsMax f (neg_ℤ low -ℤ h) (pos 0)) (lm : IsMin l (high -ℤ h) (pos secs *ℤ a)) where
  a0 : pos 0 ≤ℤ a
  a0 = omega (arith, ints)

  starts : (n d : ℤ) → IsTime secs n d → IsInBand h a low high n d → (f *ℤ d) ≤ℤ (n *ℤ a)
  starts n d t b = ⊎_elim
      (λ e. subst (λ (x : ℤ). (x *ℤ d) ≤ℤ (n *ℤ a)) (sym e) (lower h a low n d b.above))
      (λ e. subst (λ (x : ℤ). (x *ℤ d) ≤ℤ (n *ℤ a)) (sym e) (rw (zero-*ℤ d) (mul_nonneg n a t.from a0)))
      fm.one

  ends : (n d : ℤ) → IsTime secs n d → IsInBand h a low high n d → (n *ℤ a) ≤ℤ (l *ℤ d)
  ends n d t b = ⊎_elim
      (λ e. subst (λ (x : ℤ). (n *ℤ a) ≤ℤ (x *ℤ d)) (sym e) (upper h a high n d b.below))
      (λ e. subst (λ (x : ℤ). (n *ℤ a) ≤ℤ (x *ℤ d)) (sym e) (rw (turn (pos secs) a d) (mul_le n (pos secs *ℤ d) a a0 t.upto)))
      lm.one

  in_band : (n d : ℤ) → pos 0 ≤ℤ d → (f *ℤ d) ≤ℤ (n *ℤ a) → (n *ℤ a) ≤ℤ (l *ℤ d) → IsInBand h a low high n d
  in_band n d d0 from upto = record {
    above = raise h a low n d (le_trans_ℤ ((neg_ℤ low -ℤ h) *ℤ d) (f *ℤ d) (n *ℤ a) (mul_le (neg_ℤ low -ℤ h) f d d0 fm.left) from);
    below = sink h a high n d (le_trans_ℤ (n *ℤ a) (l *ℤ d) ((high -ℤ h) *ℤ d) upto (mul_le l (high -ℤ h) d d0 lm.left));
  }

  pub never : l <ℤ f → HoldsNever secs (IsInBand h a low high)
  never lt n d t b =
      clash (f *ℤ d) (l *ℤ d) (le_trans_ℤ (f *ℤ d) (n *ℤ a) (l *ℤ d) (starts n d t b) (ends n d t b)) (mul_lt l f d (omega (arith, ints, t.fraction)) lt)

  pub window : (p q : Point) → p.num ≡ f → p.den ≡ a → q.num ≡ l → q.den ≡ a → f ≤ℤ l → IsWindow secs (IsInBand h a low high) p q
  window p q pn pd qn qd le = record {
    first = rw (pn, pd) (record { fraction = a1; from = fm.right; upto = le_trans_ℤ f l (pos secs *ℤ a) le lm.right });
    last = rw (qn, qd) (record { fraction = a1; from = le_trans_ℤ (pos 0) f l fm.right le; upto = lm.right });
    holds_first = rw (pn, pd) (in_band f a a0 (omega (arith, ints)) (mul_le f l a a0 le));
    holds_last = rw (qn, qd) (in_band l a a0 (mul_le f l a a0 le) (omega (arith, ints)));
    exact = λ n d t. (
      (λ b. record { fraction = t.fraction; from = rw (pn, pd) (starts n d t b); upto = rw (qn, qd) (ends n d t b) }),
      (λ b. in_band n d (omega (arith, ints, t.fraction)) (rw (pn, pd) at b.from) (rw (qn, qd) at b.upto)),
    );
  }

-- ---- what neither rises nor sinks
level_at : (h n d : ℤ) → d *ℤ h +ℤ n *ℤ pos 0 ≡ h *ℤ d
level_at h n d = let H = # 0 in let N = # 1 in let D = # 2 in ring (h ∷ n ∷ d ∷ []) (D ⊗ H ⊕ N ⊗ lit (pos 0)) (H ⊗ D) tt

level_in : (h high n d : ℤ) → pos 0 ≤ℤ d → neg_ℤ high ≤ℤ h → h ≤ℤ high → IsInBand h (pos 0) high high n d
level_in h high n d d0 low up = record {
  above = rw (level_at h n d) (mul_le (neg_ℤ high) h d d0 low);
  below = rw (level_at h n d) (mul_le h high d d0 up);
}

pub level_window : (secs : ℕ) (h high : ℤ) → neg_ℤ high ≤ℤ h → h ≤ℤ high → (p q : Point) → p.num ≡ pos 0
    → p.den ≡ pos 1 → q.num ≡ pos secs → q.den ≡ pos 1 → IsWindow secs (IsInBand h (pos 0) high high) p q
level_window secs h high low up p q pn pd qn qd = record {
  first = rw (pn, pd) (record { fraction = omega (arith, ints); from = omega (arith, ints); upto = omega (arith, ints) });
  last = rw (qn, qd) (record { fraction = omega (arith, ints); from = omega (arith, ints); upto = omega (arith, ints) });
  holds_first = rw (pn, pd) (level_in h high (pos 0) (pos 1) (omega (arith, ints)) low up);
  holds_last = rw (qn, qd) (level_in h high (pos secs) (pos 1) (omega (arith, ints)) low up);
  exact = λ n d t. (
    (λ b. record {
      fraction = t.fraction;
      from = rw (pn, pd) (omega (arith, ints, t.from));
      upto = rw (qn, qd) (omega (arith, ints, t.upto));
    }),
    (λ b. level_in h high n d (omega (arith, ints, t.fraction)) low up),
  );
}

pub level_never : (secs : ℕ) (h high : ℤ) → (h <ℤ neg_ℤ high) ⊎ (high <ℤ h) → HoldsNever secs (IsInBand h (pos 0) high high)
level_never secs h high off n d t b =
    let d0 : pos 0 <ℤ d = omega (arith, ints, t.fraction) in
    ⊎_elim
    (λ e. clash (neg_ℤ high *ℤ d) (h *ℤ d) (rw (level_at h n d) at b.above) (mul_lt h (neg_ℤ high) d d0 e))
    (λ e. clash (h *ℤ d) (high *ℤ d) (rw (level_at h n d) at b.below) (mul_lt high h d d0 e))
    off

pub abs_within : (h high r : ℤ) → r ≡ pos (unsigned_abs h) → r ≤ℤ high → (neg_ℤ high ≤ℤ h) × (h ≤ℤ high)
abs_within h high r e k = omega (arith, ints)

pub abs_beyond : (h high r : ℤ) → r ≡ pos (unsigned_abs h) → high <ℤ r → (h <ℤ neg_ℤ high) ⊎ (high <ℤ h)
abs_beyond (pos h) high r e k = inr (omega (arith, ints))
abs_beyond (negsuc h) high r e k = inl (omega (arith, ints))

-- ---- how large the two ends are, times the speed
pub travel : (secs : ℕ) (a : ℤ) → secs ≤ 180 → pos 1 ≤ℤ a → a ≤ℤ pos 40000 → IsWithin (180 * 40000) (pos secs *ℤ a)
travel secs a short a1 slow = times (within 180 (pos secs) (omega (arith, ints)) (omega (arith, ints))) (within 40000 a (omega (arith, ints)) slow)

pub record AreEnds (f l : ℤ) : Type 0 where
  pub begun : pos 0 ≤ℤ f
  pub in_order : f ≤ℤ l
  pub ended : l ≤ℤ pos 7200000

pub ends_are : (secs : ℕ) (h a low high f l : ℤ) → secs ≤ 180 → pos 1 ≤ℤ a → a ≤ℤ pos 40000
    → IsMax f (neg_ℤ low -ℤ h) (pos 0) → IsMin l (high -ℤ h) (pos secs *ℤ a) → f ≤ℤ l → AreEnds f l
ends_are secs h a low high f l short a1 slow fm lm le = record {
  begun = fm.right;
  in_order = le;
  ended = omega (arith, ints, lm.right, (travel secs a short a1 slow).size);
}
