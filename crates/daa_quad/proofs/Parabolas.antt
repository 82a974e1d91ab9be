-- Where a quadratic is least between two times. One identity serves the start, the end and the vertex: on the way from m/e to
-- n/d the value gains a times a square, and the way times the slope at m/e; so m/e is least where that slope points along the way.
use Rattle.std.proofs.Common.{◌≡◌, zero, suc, [], ◌∷◌, refl, subst, arith, ℤ, pos, negsuc, ◌+ℤ◌, ◌*ℤ◌, ◌-ℤ◌, neg_ℤ, ◌≤ℤ◌, ◌<ℤ◌}
use Rattle.std.proofs.lemmas.Int.{ints}
use Rattle.daa_fixed.proofs.Ring.{mul_nonneg, square_nonneg, ring, #, lit, ⊝, ◌⊕◌, ◌⊖◌, ◌⊗◌}
use Rattle.daa_fixed.proofs.Integers.{by_sum, rest, mul_neg_neg, mul_pos, cancel_lt}
use Rattle.daa_quad.specs.declared.Quad.{Quad}
use Rattle.daa_quad.specs.Quad.{value_of, IsLeast, IsSignOf, IsAboveBetween}
use Rattle.daa_quad.specs.Inside.Slope.{slope_of}
use Rattle.daa_quad.specs.declared.Sign.{Sign}
use Rattle.daa_quad.specs.declared.Sign.TheVariants.{Below, Zero, Above}
use Rattle.std.proofs.Math.IntN.{*ℤ_comm}
use Rattle.daa_fixed.specs.Point.{IsBetween}
use Rattle.daa_fixed.specs.declared.Point.{Point}
use Rattle.daa_quad.proofs.Sizes.{IsQuadInRange}
use Rattle.daa_fixed.proofs.PointSizes.{IsPointInRange}

-- the way from m/e to n/d, times d e
abbrev pub way : ℤ → ℤ → ℤ → ℤ → ℤ
way m e n d = n *ℤ e -ℤ m *ℤ d

-- what the value gains on the way
pub gain : (q : Quad) (m e n d : ℤ) → value_of q n d *ℤ (e *ℤ e) -ℤ value_of q m e *ℤ (d *ℤ d) ≡ q.a *ℤ (way m e n d *ℤ way m e n d) +ℤ d *ℤ (way m e n d *ℤ slope_of q m e)
gain q m e n d =
    let A = # 0 in let B = # 1 in let C = # 2 in let M = # 3 in let E = # 4 in let N = # 5 in let D = # 6 in
    let W = N ⊗ E ⊖ M ⊗ D in
    ring (q.a ∷ q.b ∷ q.c ∷ m ∷ e ∷ n ∷ d ∷ [])
    ((A ⊗ N ⊗ N ⊕ B ⊗ N ⊗ D ⊕ C ⊗ D ⊗ D) ⊗ (E ⊗ E) ⊖ (A ⊗ M ⊗ M ⊕ B ⊗ M ⊗ E ⊕ C ⊗ E ⊗ E) ⊗ (D ⊗ D))
    (A ⊗ (W ⊗ W) ⊕ D ⊗ (W ⊗ (lit (pos 2) ⊗ A ⊗ M ⊕ B ⊗ E)))
    tt

-- no loss where the slope at the start points along the way
pub no_loss : (q : Quad) (m e n d : ℤ) → pos 0 ≤ℤ q.a → pos 0 ≤ℤ d → pos 0 ≤ℤ (way m e n d *ℤ slope_of q m e) → (value_of q m e *ℤ (d *ℤ d)) ≤ℤ (value_of q n d *ℤ (e *ℤ e))
no_loss q m e n d a0 d0 along =
    by_sum _ _ _ _ (gain q m e n d)
    (mul_nonneg q.a (way m e n d *ℤ way m e n d) a0 (square_nonneg (way m e n d)))
    (mul_nonneg d (way m e n d *ℤ slope_of q m e) d0 along)

swap : (a n : ℤ) → n *ℤ (pos 2 *ℤ a) ≡ pos 2 *ℤ a *ℤ n
swap a n = let A = # 0 in let N = # 1 in ring (a ∷ n ∷ []) (N ⊗ (lit (pos 2) ⊗ A)) (lit (pos 2) ⊗ A ⊗ N) tt

minus : (b d : ℤ) → neg_ℤ b *ℤ d ≡ neg_ℤ (b *ℤ d)
minus b d = let B = # 0 in let D = # 1 in ring (b ∷ d ∷ []) (⊝ B ⊗ D) (⊝ (B ⊗ D)) tt

loss : (x y : ℤ) → x ≤ℤ y → (x -ℤ y) ≤ℤ pos 0
loss x y h = omega (arith, ints)

loss_by : (b d : ℤ) → b ≤ℤ pos 0 → pos 0 ≤ℤ d → (b *ℤ d) ≤ℤ pos 0
loss_by (pos zero) d h k = omega (arith, ints)
loss_by (pos (suc b)) d h k = absurd (omega (arith, ints))
loss_by (negsuc b) (pos d) h k = omega (arith, ints)
loss_by (negsuc b) (negsuc d) h k = absurd (omega (arith, ints))

-- ---- the vertex, at -b/2a
flat_at : (a b : ℤ) → pos 2 *ℤ a *ℤ neg_ℤ b +ℤ b *ℤ (pos 2 *ℤ a) ≡ pos 0
flat_at a b =
    let A = # 0 in let B = # 1 in ring (a ∷ b ∷ []) (lit (pos 2) ⊗ A ⊗ ⊝ B ⊕ B ⊗ (lit (pos 2) ⊗ A)) (lit (pos 0)) tt

by_nonneg : (a b n d : ℤ) → pos 0 ≤ℤ a → pos 0 ≤ℤ n → pos 1 ≤ℤ d → (pos 2 *ℤ a *ℤ n +ℤ b *ℤ d) <ℤ pos 0 → b ≤ℤ pos 0
by_nonneg a (pos zero) n d ha hn hd h = omega (arith, ints)
by_nonneg a (negsuc b) n d ha hn hd h = omega (arith, ints)
by_nonneg a (pos (suc b)) n d ha hn hd h =
    absurd (clash (pos 2 *ℤ a *ℤ n) (pos (suc b) *ℤ d) (mul_nonneg (pos 2 *ℤ a) n (mul_nonneg (pos 2) a
    (omega (arith, ints)) ha) hn) (mul_nonneg (pos (suc b)) d (omega (arith, ints)) (omega (arith, ints, hd))) h)
  where
    clash : (x y : ℤ) → pos 0 ≤ℤ x → pos 0 ≤ℤ y → (x +ℤ y) <ℤ pos 0 → ⊥
    clash x y h k l = omega (arith, ints)

by_turn : (a b e n d : ℤ) → pos 0 ≤ℤ a → pos 0 ≤ℤ n → pos 1 ≤ℤ d → b ≤ℤ pos 0 → pos 0 <ℤ (pos 2 *ℤ a *ℤ n +ℤ b *ℤ d) → pos 1 ≤ℤ a
by_turn (pos (suc a)) b e n d ha hn hd hb h = omega (arith, ints)
by_turn (negsuc a) b e n d ha hn hd hb h = absurd (omega (arith, ints))
by_turn (pos zero) b e n d ha hn hd hb h = absurd (clash (b *ℤ d) (loss_by b d hb (omega (arith, ints, hd))) (subst (λ (x : ℤ). pos 0 <ℤ x) (zero b n d) h))
  where
    clash : (y : ℤ) → y ≤ℤ pos 0 → pos 0 <ℤ y → ⊥
    clash y k l = omega (arith, ints)

    zero : (b n d : ℤ) → pos 2 *ℤ pos 0 *ℤ n +ℤ b *ℤ d ≡ b *ℤ d
    zero b n d = let B = # 0 in let N = # 1 in let D = # 2 in ring (b ∷ n ∷ d ∷ []) (lit (pos 2) ⊗ lit (pos 0) ⊗ N ⊕ B ⊗ D) (B ⊗ D) tt

before_vertex : (a b n d : ℤ) → (pos 2 *ℤ a *ℤ n +ℤ b *ℤ d) <ℤ pos 0 → (n *ℤ (pos 2 *ℤ a)) ≤ℤ (neg_ℤ b *ℤ d)
before_vertex a b n d h = rw (swap a n, minus b d) (turn (pos 2 *ℤ a *ℤ n) (b *ℤ d) h)
  where
    turn : (x y : ℤ) → (x +ℤ y) <ℤ pos 0 → x ≤ℤ neg_ℤ y
    turn x y h = omega (arith, ints)

after_vertex : (a b n d : ℤ) → pos 0 <ℤ (pos 2 *ℤ a *ℤ n +ℤ b *ℤ d) → (neg_ℤ b *ℤ d) ≤ℤ (n *ℤ (pos 2 *ℤ a))
after_vertex a b n d h = rw (swap a n, minus b d) (turn (pos 2 *ℤ a *ℤ n) (b *ℤ d) h)
  where
    turn : (x y : ℤ) → pos 0 <ℤ (x +ℤ y) → neg_ℤ y ≤ℤ x
    turn x y h = omega (arith, ints)

module _ (q : Quad) (p r : Point) (s : IsQuadInRange q) (tp : IsPointInRange p) (tr : IsPointInRange r) where
  -- where the slope does not fall from p on, p is least
  pub start-least : pos 0 ≤ℤ slope_of q p.num p.den → IsLeast q p r p.num p.den
  start-least up n d between =
      no_loss q p.num p.den n d s.a0 (omega (arith, ints, between.fraction))
      (mul_nonneg (way p.num p.den n d) (slope_of q p.num p.den) (rest (p.num *ℤ d) (n *ℤ p.den) between.from) up)

  pub end-least : slope_of q r.num r.den ≤ℤ pos 0 → IsLeast q p r r.num r.den
  end-least down n d between =
      no_loss q r.num r.den n d s.a0 (omega (arith, ints, between.fraction))
      (mul_neg_neg (way r.num r.den n d) (slope_of q r.num r.den) (loss (n *ℤ r.den) (r.num *ℤ d) between.upto) down)

  pub vertex-least : IsLeast q p r (neg_ℤ q.b) (pos 2 *ℤ q.a)
  vertex-least n d between =
      no_loss q (neg_ℤ q.b) (pos 2 *ℤ q.a) n d s.a0 (omega (arith, ints, between.fraction))
      (rw flat (omega (arith, ints)))
    where
      flat : slope_of q (neg_ℤ q.b) (pos 2 *ℤ q.a) ≡ pos 0
      flat = flat_at q.a q.b

  module _ (falls : slope_of q p.num p.den <ℤ pos 0) (rises : pos 0 <ℤ slope_of q r.num r.den) where
    pub vertex-not_negative : q.b ≤ℤ pos 0
    vertex-not_negative = by_nonneg q.a q.b p.num p.den s.a0 tp.n0 tp.d0 falls

    pub vertex-bends : pos 1 ≤ℤ q.a
    vertex-bends = by_turn q.a q.b p.den r.num r.den s.a0 tr.n0 tr.d0 vertex-not_negative rises

    pub vertex-between : IsBetween p r (neg_ℤ q.b) (pos 2 *ℤ q.a)
    vertex-between = record {
      fraction = omega (arith, ints, vertex-bends);
      from = before_vertex q.a q.b p.num p.den falls;
      upto = after_vertex q.a q.b r.num r.den rises;
    }

-- ---- signs over an interval
pub all_above : (q : Quad) (p r : Point) (m e : ℤ) → pos 1 ≤ℤ e → IsLeast q p r m e → pos 0 <ℤ value_of q m e → IsAboveBetween q p r
all_above q p r m e e1 least above n d between =
    cancel_lt (e *ℤ e) (value_of q n d) (square_nonneg e)
    (chain (value_of q m e *ℤ (d *ℤ d)) (value_of q n d *ℤ (e *ℤ e)) (e *ℤ e *ℤ value_of q n d)
    (mul_pos (value_of q m e) (d *ℤ d) above (mul_pos d d (omega (arith, ints, between.fraction)) (omega (arith, ints, between.fraction))))
    (least n d between)
    (*ℤ_comm (value_of q n d) (e *ℤ e)))
  where
    chain : (x y z : ℤ) → pos 0 <ℤ x → x ≤ℤ y → y ≡ z → pos 0 <ℤ z
    chain x y z h k e = omega (arith, ints)

pub not_above : (z : ℤ) (s : Sign) → IsSignOf z s → ¬ (s ≡ Above) → z ≤ℤ pos 0
not_above z Below h n = omega (arith, ints)
not_above z Zero h n = omega (arith, ints)
not_above z Above h n = absurd (n refl)
