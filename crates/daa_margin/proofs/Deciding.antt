-- Which time decides over a leg: where the distance may be at most dthr only later, the last time of the vertical window.
use Rattle.std.proofs.Common.{[], ◌∷◌, ◌≡◌, ◌↔◌, ◌⊎◌, inl, inr, ⊎_elim, sym, subst, ◌∙◌, arith}
use Rattle.std.proofs.Common.{ℕ, ℤ, pos, ◌+ℤ◌, ◌*ℤ◌, ◌-ℤ◌, neg_ℤ, ◌≤ℤ◌, ◌<ℤ◌}
use Rattle.std.proofs.lemmas.Int.{ints, by_lt_z}
use Rattle.daa_fixed.proofs.Ring.{mul_nonneg, square_nonneg, ring, #, lit, ⊝, ◌⊕◌, ◌⊖◌, ◌⊗◌}
use Rattle.daa_fixed.proofs.Integers.{mul_le_mul, mul_pos, cancel_le, cancel_lt, le_trans_ℤ, clash, rest, by_rest, root_within, sum_nonneg}
use Rattle.daa_fixed.specs.Flat.{dot_of, square_of}
use Rattle.daa_fixed.specs.declared.Flat.{Flat}
use Rattle.daa_fixed.specs.declared.Leg.{Leg}
use Rattle.daa_fixed.specs.declared.Point.{Point}
use Rattle.daa_fixed.specs.Point.{IsBetween}
use Rattle.daa_fixed.specs.Time.{IsTime, HoldsSometime}
use Rattle.daa_taumod.specs.declared.Model.{Model}
use Rattle.daa_taumod.specs.declared.Model.TheVariants.{Tau, Tcpa, Taumod, Tep}
use Rattle.daa_taumod.specs.declared.Volume.{Volume}
use Rattle.daa_taumod.specs.Volume.{place_at}
use Rattle.daa_vwindow.specs.Window.{IsWindow}
use Rattle.daa_margin.specs.declared.ErrorBounds.{ErrorBounds}
use Rattle.daa_margin.specs.ErrorBounds.{place_error_at}
use Rattle.daa_margin.specs.MayViolate.{HoldsWithinNext, IsRootAbove, MayBeNear, MayBeSoon, MayBeSoonBy, MayEnter, square_within, MayViolateVertically, MayViolate}
use Rattle.daa_margin.specs.Inside.Between.{HoldsBetween}
use Rattle.daa_margin.specs.Inside.Cone.{radius_at}
use Rattle.daa_margin.proofs.Cones.{qa, qb, qc, value, slope, gain, loses, near_is, slope_is, nearing, HasNearing}
use Rattle.daa_margin.proofs.Growth.{room_of}
use Rattle.daa_margin.proofs.Roots.{root_above}
use Rattle.daa_margin.proofs.Rooms.{soon_is}
use Rattle.daa_margin.proofs.Stretches.{trans}
use Rattle.daa_margin.proofs.Sums.{len, len_nonneg}

natural : {x : ℤ} → pos 1 ≤ℤ x → pos 0 ≤ℤ x
natural h = omega (arith, ints)

self : (z : ℤ) → z ≤ℤ z
self z = omega (arith, ints)

-- ---- a cone is convex: f and e times the root of g are the heights of the two places
high_nonneg : (a b f g : ℤ) → pos 0 ≤ℤ g → pos 0 ≤ℤ (len a b +ℤ f *ℤ f *ℤ g)
high_nonneg a b f g g0 = sum_nonneg _ _ (len_nonneg a b) (mul_nonneg _ g (square_nonneg f) g0)

dot_high : (a b p q m r f e g : ℤ) → pos 0 ≤ℤ m → pos 0 ≤ℤ r → pos 0 ≤ℤ g → (len a b +ℤ f *ℤ f *ℤ g) ≤ℤ (m *ℤ m) → (len p q +ℤ e *ℤ e *ℤ g) ≤ℤ (r *ℤ r)
    → (a *ℤ p +ℤ b *ℤ q +ℤ f *ℤ e *ℤ g) ≤ℤ (m *ℤ r)
dot_high a b p q m r f e g m0 r0 g0 one two = root_within _ _ (mul_nonneg m r m0 r0)
    (let A = # 0 in let B = # 1 in let P = # 2 in let Q = # 3 in let M = # 4 in let R = # 5 in let F = # 6 in let E = # 7 in let G = # 8 in
    by_rest _ _ _
    (ring (a ∷ b ∷ p ∷ q ∷ m ∷ r ∷ f ∷ e ∷ g ∷ [])
    ((M ⊗ R) ⊗ (M ⊗ R) ⊖ (A ⊗ P ⊕ B ⊗ Q ⊕ F ⊗ E ⊗ G) ⊗ (A ⊗ P ⊕ B ⊗ Q ⊕ F ⊗ E ⊗ G))
    (((M ⊗ M) ⊗ (R ⊗ R) ⊖ ((A ⊗ A ⊕ B ⊗ B) ⊕ F ⊗ F ⊗ G) ⊗ ((P ⊗ P ⊕ Q ⊗ Q) ⊕ E ⊗ E ⊗ G))
    ⊕ ((A ⊗ Q ⊖ B ⊗ P) ⊗ (A ⊗ Q ⊖ B ⊗ P) ⊕ G ⊗ ((A ⊗ E ⊖ P ⊗ F) ⊗ (A ⊗ E ⊖ P ⊗ F) ⊕ (B ⊗ E ⊖ Q ⊗ F) ⊗ (B ⊗ E ⊖ Q ⊗ F))))
    tt)
    (sum_nonneg _ _
    (rest _ _ (mul_le_mul _ _ (m *ℤ m) (r *ℤ r) (high_nonneg a b f g g0) (square_nonneg r) one two (high_nonneg p q e g g0)))
    (sum_nonneg _ _ (square_nonneg (a *ℤ q -ℤ b *ℤ p))
    (mul_nonneg g _ g0 (sum_nonneg _ _ (square_nonneg (a *ℤ e -ℤ p *ℤ f)) (square_nonneg (b *ℤ e -ℤ q *ℤ f)))))))

between : (a b p q m r f e g j k : ℤ) → pos 0 ≤ℤ m → pos 0 ≤ℤ r → pos 0 ≤ℤ g → pos 0 ≤ℤ j → pos 0 ≤ℤ k
    → (len a b +ℤ f *ℤ f *ℤ g) ≤ℤ (m *ℤ m) → (len p q +ℤ e *ℤ e *ℤ g) ≤ℤ (r *ℤ r)
    → (len (j *ℤ a +ℤ k *ℤ p) (j *ℤ b +ℤ k *ℤ q) +ℤ (j *ℤ f +ℤ k *ℤ e) *ℤ (j *ℤ f +ℤ k *ℤ e) *ℤ g) ≤ℤ ((j *ℤ m +ℤ k *ℤ r) *ℤ (j *ℤ m +ℤ k *ℤ r))
between a b p q m r f e g j k m0 r0 g0 j0 k0 one two =
    let A = # 0 in let B = # 1 in let P = # 2 in let Q = # 3 in let M = # 4 in let R = # 5 in let F = # 6 in let E = # 7 in let G = # 8 in let J = # 9 in let K = # 10 in
    by_rest _ _ _
    (ring (a ∷ b ∷ p ∷ q ∷ m ∷ r ∷ f ∷ e ∷ g ∷ j ∷ k ∷ [])
    ((J ⊗ M ⊕ K ⊗ R) ⊗ (J ⊗ M ⊕ K ⊗ R) ⊖ (((J ⊗ A ⊕ K ⊗ P) ⊗ (J ⊗ A ⊕ K ⊗ P) ⊕ (J ⊗ B ⊕ K ⊗ Q) ⊗ (J ⊗ B ⊕ K ⊗ Q)) ⊕ (J ⊗ F ⊕ K ⊗ E) ⊗ (J ⊗ F ⊕ K ⊗ E) ⊗ G))
    ((J ⊗ J) ⊗ (M ⊗ M ⊖ ((A ⊗ A ⊕ B ⊗ B) ⊕ F ⊗ F ⊗ G)) ⊕ ((K ⊗ K) ⊗ (R ⊗ R ⊖ ((P ⊗ P ⊕ Q ⊗ Q) ⊕ E ⊗ E ⊗ G)) ⊕ lit (pos 2) ⊗ ((J ⊗ K) ⊗ (M ⊗ R ⊖ (A ⊗ P ⊕ B ⊗ Q ⊕ F ⊗ E ⊗ G)))))
    tt)
    (sum_nonneg _ _ (mul_nonneg (j *ℤ j) _ (square_nonneg j) (rest _ _ one))
    (sum_nonneg _ _ (mul_nonneg (k *ℤ k) _ (square_nonneg k) (rest _ _ two))
    (mul_nonneg (pos 2) _ (omega (arith, ints)) (mul_nonneg (j *ℤ k) _ (mul_nonneg j k j0 k0) (rest _ _ (dot_high a b p q m r f e g m0 r0 g0 one two))))))

-- ---- that modified tau may be at most tthr, as a cone: x y the place, u w the velocity, p s the bounds, t the time, k the square, r its root
module _ (x y u w p s t k r : ℤ) (p0 : pos 0 ≤ℤ p) (s0 : pos 0 ≤ℤ s) (t0 : pos 0 ≤ℤ t) (r0 : pos 0 ≤ℤ r) (root : k ≤ℤ (r *ℤ r)) where
  abbrev east : ℤ → ℤ → ℤ
  east n d = pos 2 *ℤ (d *ℤ x +ℤ n *ℤ u) +ℤ t *ℤ d *ℤ u

  abbrev north : ℤ → ℤ → ℤ
  north n d = pos 2 *ℤ (d *ℤ y +ℤ n *ℤ w) +ℤ t *ℤ d *ℤ w

  abbrev error : ℤ → ℤ → ℤ
  error n d = pos 2 *ℤ (d *ℤ p +ℤ n *ℤ s) +ℤ t *ℤ d *ℤ s

  abbrev pub Soon : ℤ → ℤ → Type 0
  Soon n d = len (east n d) (north n d) ≤ℤ room_of d k r (error n d)

  abbrev most : ℤ → ℤ → ℤ
  most n d = d *ℤ r +ℤ error n d

  abbrev g : ℤ
  g = r *ℤ r -ℤ k

  cone_in : (n d : ℤ) → Soon n d → (len (east n d) (north n d) +ℤ d *ℤ d *ℤ g) ≤ℤ (most n d *ℤ most n d)
  cone_in n d h = by_rest _ _ _
      (let L = # 0 in let D = # 1 in let K = # 2 in let R = # 3 in let E = # 4 in
      ring (len (east n d) (north n d) ∷ d ∷ k ∷ r ∷ error n d ∷ [])
      ((D ⊗ R ⊕ E) ⊗ (D ⊗ R ⊕ E) ⊖ (L ⊕ D ⊗ D ⊗ (R ⊗ R ⊖ K)))
      (((D ⊗ D) ⊗ K ⊕ lit (pos 2) ⊗ (D ⊗ R) ⊗ E ⊕ E ⊗ E) ⊖ L)
      tt)
      (rest _ _ h)

  module _ (n1 d1 n2 d2 n d : ℤ) (n10 : pos 0 ≤ℤ n1) (d11 : pos 1 ≤ℤ d1) (n20 : pos 0 ≤ℤ n2) (d21 : pos 1 ≤ℤ d2) (d1' : pos 1 ≤ℤ d)
      (from : (n1 *ℤ d) ≤ℤ (n *ℤ d1)) (before : (n *ℤ d2) <ℤ (n2 *ℤ d)) (first : Soon n1 d1) (second : Soon n2 d2) where
    abbrev j : ℤ
    j = n2 *ℤ d -ℤ n *ℤ d2

    abbrev i : ℤ
    i = n *ℤ d1 -ℤ n1 *ℤ d

    abbrev c : ℤ
    c = n2 *ℤ d1 -ℤ n1 *ℤ d2

    j1 : pos 0 <ℤ j
    j1 = gap _ _ before
      where
        gap : (x y : ℤ) → x <ℤ y → pos 0 <ℤ (y -ℤ x)
        gap x y h = omega (arith, ints)

    j0 : pos 0 ≤ℤ j
    j0 = less _ j1
      where
        less : (x : ℤ) → pos 0 <ℤ x → pos 0 ≤ℤ x
        less x h = omega (arith, ints)

    error0 : (n d : ℤ) → pos 0 ≤ℤ n → pos 0 ≤ℤ d → pos 0 ≤ℤ error n d
    error0 n d n0 d0 = sum_nonneg _ _ (mul_nonneg (pos 2) _ (omega (arith, ints)) (sum_nonneg _ _ (mul_nonneg d p d0 p0) (mul_nonneg n s n0 s0)))
        (mul_nonneg _ s (mul_nonneg t d t0 d0) s0)

    most0 : (n d : ℤ) → pos 0 ≤ℤ n → pos 0 ≤ℤ d → pos 0 ≤ℤ most n d
    most0 n d n0 d0 = sum_nonneg _ _ (mul_nonneg d r d0 r0) (error0 n d n0 d0)

    -- what is linear in the two times
    mixed : (v z : ℤ) → j *ℤ (pos 2 *ℤ (d1 *ℤ v +ℤ n1 *ℤ z) +ℤ t *ℤ d1 *ℤ z) +ℤ i *ℤ (pos 2 *ℤ (d2 *ℤ v +ℤ n2 *ℤ z) +ℤ t *ℤ d2 *ℤ z)
        ≡ c *ℤ (pos 2 *ℤ (d *ℤ v +ℤ n *ℤ z) +ℤ t *ℤ d *ℤ z)
    mixed v z =
        let V = # 0 in let Z = # 1 in let T = # 2 in let N1 = # 3 in let D1 = # 4 in let N2 = # 5 in let D2 = # 6 in let N = # 7 in let D = # 8 in
        ring (v ∷ z ∷ t ∷ n1 ∷ d1 ∷ n2 ∷ d2 ∷ n ∷ d ∷ [])
        ((N2 ⊗ D ⊖ N ⊗ D2) ⊗ (lit (pos 2) ⊗ (D1 ⊗ V ⊕ N1 ⊗ Z) ⊕ T ⊗ D1 ⊗ Z) ⊕ (N ⊗ D1 ⊖ N1 ⊗ D) ⊗ (lit (pos 2) ⊗ (D2 ⊗ V ⊕ N2 ⊗ Z) ⊕ T ⊗ D2 ⊗ Z))
        ((N2 ⊗ D1 ⊖ N1 ⊗ D2) ⊗ (lit (pos 2) ⊗ (D ⊗ V ⊕ N ⊗ Z) ⊕ T ⊗ D ⊗ Z))
        tt

    mixed_den : j *ℤ d1 +ℤ i *ℤ d2 ≡ c *ℤ d
    mixed_den =
        let N1 = # 0 in let D1 = # 1 in let N2 = # 2 in let D2 = # 3 in let N = # 4 in let D = # 5 in
        ring (n1 ∷ d1 ∷ n2 ∷ d2 ∷ n ∷ d ∷ []) ((N2 ⊗ D ⊖ N ⊗ D2) ⊗ D1 ⊕ (N ⊗ D1 ⊖ N1 ⊗ D) ⊗ D2) ((N2 ⊗ D1 ⊖ N1 ⊗ D2) ⊗ D) tt

    mixed_most : j *ℤ most n1 d1 +ℤ i *ℤ most n2 d2 ≡ c *ℤ most n d
    mixed_most =
        (let J = # 0 in let I = # 1 in let R = # 2 in let D1 = # 3 in let D2 = # 4 in let E1 = # 5 in let E2 = # 6 in
        ring (j ∷ i ∷ r ∷ d1 ∷ d2 ∷ error n1 d1 ∷ error n2 d2 ∷ []) (J ⊗ (D1 ⊗ R ⊕ E1) ⊕ I ⊗ (D2 ⊗ R ⊕ E2)) ((J ⊗ D1 ⊕ I ⊗ D2) ⊗ R ⊕ (J ⊗ E1 ⊕ I ⊗ E2)) tt)
        ∙ (λ e. mixed_den e *ℤ r +ℤ mixed p s e)
        ∙ (let C = # 0 in let D = # 1 in let R = # 2 in let E = # 3 in ring (c ∷ d ∷ r ∷ error n d ∷ []) ((C ⊗ D) ⊗ R ⊕ C ⊗ E) (C ⊗ (D ⊗ R ⊕ E)) tt)

    c1 : pos 0 <ℤ c
    c1 = cancel_lt d c (natural d1')
        (subst (λ (z : ℤ). pos 0 <ℤ z) (mixed_den ∙ (let C = # 0 in let D = # 1 in ring (c ∷ d ∷ []) (C ⊗ D) (D ⊗ C) tt))
        (more _ _ (mul_pos j d1 j1 (positive d11)) (mul_nonneg i d2 (rest _ _ from) (natural d21))))
      where
        positive : {x : ℤ} → pos 1 ≤ℤ x → pos 0 <ℤ x
        positive h = omega (arith, ints)

        more : (x y : ℤ) → pos 0 <ℤ x → pos 0 ≤ℤ y → pos 0 <ℤ (x +ℤ y)
        more x y h k = omega (arith, ints)

    scaled : (len (c *ℤ east n d) (c *ℤ north n d) +ℤ (c *ℤ d) *ℤ (c *ℤ d) *ℤ g) ≤ℤ ((c *ℤ most n d) *ℤ (c *ℤ most n d))
    scaled =
        subst (λ (z : ℤ). (len z (c *ℤ north n d) +ℤ (c *ℤ d) *ℤ (c *ℤ d) *ℤ g) ≤ℤ ((c *ℤ most n d) *ℤ (c *ℤ most n d))) (mixed x u)
        (subst (λ (z : ℤ). (len (j *ℤ east n1 d1 +ℤ i *ℤ east n2 d2) z +ℤ (c *ℤ d) *ℤ (c *ℤ d) *ℤ g) ≤ℤ ((c *ℤ most n d) *ℤ (c *ℤ most n d))) (mixed y w)
        (subst (λ (z : ℤ). (len (j *ℤ east n1 d1 +ℤ i *ℤ east n2 d2) (j *ℤ north n1 d1 +ℤ i *ℤ north n2 d2) +ℤ z *ℤ z *ℤ g) ≤ℤ ((c *ℤ most n d) *ℤ (c *ℤ most n d))) mixed_den
        (subst (λ (z : ℤ). (len (j *ℤ east n1 d1 +ℤ i *ℤ east n2 d2) (j *ℤ north n1 d1 +ℤ i *ℤ north n2 d2) +ℤ (j *ℤ d1 +ℤ i *ℤ d2) *ℤ (j *ℤ d1 +ℤ i *ℤ d2) *ℤ g) ≤ℤ (z *ℤ z)) mixed_most
        (between (east n1 d1) (north n1 d1) (east n2 d2) (north n2 d2) (most n1 d1) (most n2 d2) d1 d2 g j i
        (most0 n1 d1 n10 (natural d11)) (most0 n2 d2 n20 (natural d21)) (rest _ _ root) j0 (rest _ _ from) (cone_in n1 d1 first) (cone_in n2 d2 second)))))

    pub soon_between : Soon n d
    soon_between = over _ _ (cancel_le (c *ℤ c) _ (mul_pos c c c1 c1)
        (subst (λ (z : ℤ). pos 0 ≤ℤ z)
        (let C = # 0 in let X = # 1 in let Y = # 2 in let D = # 3 in let K = # 4 in let R = # 5 in let E = # 6 in
        ring (c ∷ east n d ∷ north n d ∷ d ∷ k ∷ r ∷ error n d ∷ [])
        ((C ⊗ (D ⊗ R ⊕ E)) ⊗ (C ⊗ (D ⊗ R ⊕ E)) ⊖ (((C ⊗ X) ⊗ (C ⊗ X) ⊕ (C ⊗ Y) ⊗ (C ⊗ Y)) ⊕ (C ⊗ D) ⊗ (C ⊗ D) ⊗ (R ⊗ R ⊖ K)))
        ((C ⊗ C) ⊗ (((D ⊗ D) ⊗ K ⊕ lit (pos 2) ⊗ (D ⊗ R) ⊗ E ⊕ E ⊗ E) ⊖ (X ⊗ X ⊕ Y ⊗ Y)))
        tt)
        (rest _ _ scaled)))
      where
        over : (x y : ℤ) → pos 0 ≤ℤ (y -ℤ x) → x ≤ℤ y
        over x y h = omega (arith, ints)

-- ---- of a leg
-- what may be near, and gets no farther from the bound, may be soon: x y the place and u w the velocity, times d where the place is
near_soon : (x y u w t near place speed most reach : ℤ) → pos 0 ≤ℤ t → pos 0 ≤ℤ place → pos 0 ≤ℤ speed → pos 0 ≤ℤ most → (pos 2 *ℤ near) ≤ℤ reach
    → (x *ℤ x +ℤ y *ℤ y) ≤ℤ ((near +ℤ place) *ℤ (near +ℤ place)) → (x *ℤ u +ℤ y *ℤ w) ≤ℤ (speed *ℤ (near +ℤ place))
    → len (pos 2 *ℤ x +ℤ t *ℤ u) (pos 2 *ℤ y +ℤ t *ℤ w)
    ≤ℤ ((pos 4 *ℤ (near *ℤ near) +ℤ (t *ℤ t) *ℤ ((u *ℤ u +ℤ w *ℤ w) +ℤ (pos 2 *ℤ (most *ℤ speed) +ℤ speed *ℤ speed)))
    +ℤ (pos 2 *ℤ (reach *ℤ (pos 2 *ℤ place +ℤ t *ℤ speed)) +ℤ (pos 2 *ℤ place +ℤ t *ℤ speed) *ℤ (pos 2 *ℤ place +ℤ t *ℤ speed)))
near_soon x y u w t near place speed most reach t0 place0 speed0 most0 wide here slope =
    let X = # 0 in let Y = # 1 in let U = # 2 in let W = # 3 in let T = # 4 in let N = # 5 in let P = # 6 in let S = # 7 in let V = # 8 in let R = # 9 in
    let E = lit (pos 2) ⊗ P ⊕ T ⊗ S in
    by_rest _ _ _
    (ring (x ∷ y ∷ u ∷ w ∷ t ∷ near ∷ place ∷ speed ∷ most ∷ reach ∷ [])
    (((lit (pos 4) ⊗ (N ⊗ N) ⊕ (T ⊗ T) ⊗ ((U ⊗ U ⊕ W ⊗ W) ⊕ (lit (pos 2) ⊗ (V ⊗ S) ⊕ S ⊗ S))) ⊕ (lit (pos 2) ⊗ (R ⊗ E) ⊕ E ⊗ E))
    ⊖ ((lit (pos 2) ⊗ X ⊕ T ⊗ U) ⊗ (lit (pos 2) ⊗ X ⊕ T ⊗ U) ⊕ (lit (pos 2) ⊗ Y ⊕ T ⊗ W) ⊗ (lit (pos 2) ⊗ Y ⊕ T ⊗ W)))
    ((lit (pos 4) ⊗ ((N ⊕ P) ⊗ (N ⊕ P) ⊖ (X ⊗ X ⊕ Y ⊗ Y)) ⊕ lit (pos 4) ⊗ (T ⊗ (S ⊗ (N ⊕ P) ⊖ (X ⊗ U ⊕ Y ⊗ W))))
    ⊕ (lit (pos 2) ⊗ ((R ⊖ lit (pos 2) ⊗ N) ⊗ E) ⊕ lit (pos 2) ⊗ ((T ⊗ T) ⊗ (S ⊗ (V ⊕ S)))))
    tt)
    (sum_nonneg _ _
    (sum_nonneg _ _ (mul_nonneg (pos 4) _ (omega (arith, ints)) (rest _ _ here)) (mul_nonneg (pos 4) _ (omega (arith, ints)) (mul_nonneg t _ t0 (rest _ _ slope))))
    (sum_nonneg _ _
    (mul_nonneg (pos 2) _ (omega (arith, ints)) (mul_nonneg (reach -ℤ pos 2 *ℤ near) _ (rest _ _ wide)
    (sum_nonneg _ _ (mul_nonneg (pos 2) place (omega (arith, ints)) place0) (mul_nonneg t speed t0 speed0))))
    (mul_nonneg (pos 2) _ (omega (arith, ints)) (mul_nonneg (t *ℤ t) _ (square_nonneg t) (mul_nonneg speed _ speed0 (sum_nonneg _ _ most0 speed0))))))

module _ (leg : Leg) (volume : Volume) (bounds : ErrorBounds) where
  abbrev v : Flat
  v = leg.velocity.flat

  abbrev N : ℤ → ℤ → Type 0
  N = MayBeNear leg volume bounds

  nat0 : (k : ℕ) → pos 0 ≤ℤ pos k
  nat0 k = omega (arith, ints)

  module _ (speed reach : ℤ) (speed_is : IsRootAbove (dot_of v v) speed) (reach_is : IsRootAbove (square_within leg volume bounds speed) reach) where
    abbrev SoonAt : ℤ → ℤ → Type 0
    SoonAt n d = Soon leg.place.flat.east leg.place.flat.north v.east v.north (pos bounds.place) (pos bounds.speed) (pos volume.tthr) (square_within leg volume bounds speed) reach
        (nat0 bounds.place) (nat0 bounds.speed) (nat0 volume.tthr) reach_is.from reach_is.above n d

    -- the reach is at least twice dthr
    wide : (pos 2 *ℤ pos volume.dthr) ≤ℤ reach
    wide = root_within _ _ reach_is.from (le_trans_ℤ _ _ _
        (by_rest _ _ _
        (let D = # 0 in let K = # 1 in ring (pos volume.dthr ∷ (square_of (pos volume.tthr) *ℤ true_square) ∷ []) ((lit (pos 4) ⊗ (D ⊗ D) ⊕ K) ⊖ (lit (pos 2) ⊗ D) ⊗ (lit (pos 2) ⊗ D)) K tt)
        (mul_nonneg _ _ (square_nonneg (pos volume.tthr))
        (sum_nonneg _ _ (sum_nonneg _ _ (len_nonneg v.east v.north)
        (mul_nonneg _ _ (mul_nonneg (pos 2) speed (omega (arith, ints)) speed_is.from) (nat0 bounds.speed))) (square_nonneg (pos bounds.speed)))))
        reach_is.above)
      where
        true_square : ℤ
        true_square = dot_of v v +ℤ pos 2 *ℤ speed *ℤ pos bounds.speed +ℤ square_of (pos bounds.speed)

    soon_at : (n d : ℤ) → pos 0 ≤ℤ n → pos 1 ≤ℤ d → N n d → slope (qa leg volume bounds) (qb leg volume bounds) (qc leg volume bounds) n d ≤ℤ pos 0 → SoonAt n d
    soon_at n d n0 d1 near slows =
        subst (λ (z : ℤ). len (pos 2 *ℤ s.east +ℤ (pos volume.tthr *ℤ d) *ℤ v.east) (pos 2 *ℤ s.north +ℤ (pos volume.tthr *ℤ d) *ℤ v.north) ≤ℤ z)
        (let Q = # 0 in let D = # 1 in let R = # 2 in let T = # 3 in let M = # 4 in let S = # 5 in let C = # 6 in let E = # 7 in
        ring (dot_of v v ∷ d ∷ pos volume.dthr ∷ pos volume.tthr ∷ speed ∷ pos bounds.speed ∷ reach ∷ place_error_at bounds n d ∷ [])
        ((lit (pos 4) ⊗ ((R ⊗ D) ⊗ (R ⊗ D)) ⊕ ((T ⊗ D) ⊗ (T ⊗ D)) ⊗ (Q ⊕ (lit (pos 2) ⊗ (M ⊗ S) ⊕ S ⊗ S)))
        ⊕ (lit (pos 2) ⊗ ((D ⊗ C) ⊗ (lit (pos 2) ⊗ E ⊕ (T ⊗ D) ⊗ S)) ⊕ (lit (pos 2) ⊗ E ⊕ (T ⊗ D) ⊗ S) ⊗ (lit (pos 2) ⊗ E ⊕ (T ⊗ D) ⊗ S)))
        ((D ⊗ D) ⊗ (lit (pos 4) ⊗ (R ⊗ R) ⊕ (T ⊗ T) ⊗ (Q ⊕ lit (pos 2) ⊗ M ⊗ S ⊕ S ⊗ S)) ⊕ lit (pos 2) ⊗ (D ⊗ C) ⊗ (lit (pos 2) ⊗ E ⊕ T ⊗ D ⊗ S)
        ⊕ (lit (pos 2) ⊗ E ⊕ T ⊗ D ⊗ S) ⊗ (lit (pos 2) ⊗ E ⊕ T ⊗ D ⊗ S))
        tt)
        (near_soon s.east s.north v.east v.north (pos volume.tthr *ℤ d) (pos volume.dthr *ℤ d) (place_error_at bounds n d) (pos bounds.speed) speed (d *ℤ reach)
        (mul_nonneg _ d (nat0 volume.tthr) d0) (sum_nonneg _ _ (mul_nonneg d _ d0 (nat0 bounds.place)) (mul_nonneg n _ n0 (nat0 bounds.speed))) (nat0 bounds.speed) speed_is.from
        (by_rest _ _ _ (let R = # 0 in let D = # 1 in let C = # 2 in ring (pos volume.dthr ∷ d ∷ reach ∷ []) (D ⊗ C ⊖ lit (pos 2) ⊗ (R ⊗ D)) (D ⊗ (C ⊖ lit (pos 2) ⊗ R)) tt)
        (mul_nonneg d _ d0 (rest _ _ wide)))
        near
        (under _ _ (subst (λ (z : ℤ). z ≤ℤ pos 0) (sym (slope_is leg volume bounds n d)) slows)))
      where
        s : Flat
        s = place_at leg n d

        d0 : pos 0 ≤ℤ d
        d0 = natural d1

        under : (x y : ℤ) → (x -ℤ y) ≤ℤ pos 0 → x ≤ℤ y
        under x y h = omega (arith, ints)

  -- at n/d modified tau may be at most tthr, and the distance may be at most dthr only after m/e, at a/b: then it may be so at m/e
  soon_stays : (n d m e k b : ℤ) → pos 0 ≤ℤ n → pos 1 ≤ℤ d → pos 0 ≤ℤ m → pos 1 ≤ℤ e → pos 1 ≤ℤ b → (n *ℤ e) ≤ℤ (m *ℤ d) → (m *ℤ b) ≤ℤ (k *ℤ e)
      → square_of (radius_at volume bounds m e) <ℤ dot_of (place_at leg m e) (place_at leg m e) → N k b → MayBeSoon leg volume bounds n d → MayBeSoon leg volume bounds m e
  soon_stays n d m e k b n0 d1 m0 e1 b1 from upto far near soon =
      let speed = root_above (dot_of v v) in
      let reach = root_above (square_within leg volume bounds speed.root) in
      let h = nearing a' b' c' m e k b e1 b1 upto high ((near_is leg volume bounds k b).0 near) in
      let one = (soon_is leg volume bounds n d speed.root reach.root speed.is reach.is).1 soon in
      let two = soon_at speed.root reach.root speed.is reach.is h.num h.den (later0 h) h.fraction ((near_is leg volume bounds h.num h.den).1 h.low) h.slows in
      (soon_is leg volume bounds m e speed.root reach.root speed.is reach.is).0
      (soon_between leg.place.flat.east leg.place.flat.north v.east v.north (pos bounds.place) (pos bounds.speed) (pos volume.tthr) (square_within leg volume bounds speed.root) reach.root
      (nat0 bounds.place) (nat0 bounds.speed) (nat0 volume.tthr) reach.is.from reach.is.above
      n d h.num h.den m e n0 d1 (later0 h) h.fraction e1 from (strictly h) one two)
    where
      a' : ℤ
      a' = qa leg volume bounds

      b' : ℤ
      b' = qb leg volume bounds

      c' : ℤ
      c' = qc leg volume bounds

      high : pos 0 <ℤ value a' b' c' m e
      high = by_lt_z (pos 0) (value a' b' c' m e) (λ l. l) (λ low. absurd (clash _ _ ((near_is leg volume bounds m e).1 low) far))

      later0 : (h : HasNearing a' b' c' m e k b) → pos 0 ≤ℤ h.num
      later0 h = cancel_le e h.num (positive e1)
          (le_trans_ℤ _ _ _ (mul_nonneg m h.den m0 (natural h.fraction)) (subst (λ (z : ℤ). (m *ℤ h.den) ≤ℤ z) (let A = # 0 in let B = # 1 in ring (h.num ∷ e ∷ []) (A ⊗ B) (B ⊗ A) tt) h.from))
        where
          positive : {x : ℤ} → pos 1 ≤ℤ x → pos 0 <ℤ x
          positive h = omega (arith, ints)

      strictly : (h : HasNearing a' b' c' m e k b) → (m *ℤ h.den) <ℤ (h.num *ℤ e)
      strictly h = by_lt_z (m *ℤ h.den) (h.num *ℤ e) (λ l. l)
          (λ back. absurd (none _ (loses a' b' c' m e h.num h.den h.fraction h.low high)
          (gain a' b' c' m e h.num h.den
          ∙ (λ i. a' *ℤ (level _ _ h.from back i *ℤ level _ _ h.from back i) +ℤ pos 2 *ℤ (h.den *ℤ (level _ _ h.from back i *ℤ slope a' b' c' m e)))
          ∙ (let A = # 0 in let D = # 1 in let S = # 2 in ring (a' ∷ h.den ∷ slope a' b' c' m e ∷ []) (A ⊗ (lit (pos 0) ⊗ lit (pos 0)) ⊕ lit (pos 2) ⊗ (D ⊗ (lit (pos 0) ⊗ S))) (lit (pos 0)) tt))))
        where
          level : (x y : ℤ) → x ≤ℤ y → y ≤ℤ x → y -ℤ x ≡ pos 0
          level x y h k = omega (arith, ints)

          none : (x : ℤ) → x <ℤ pos 0 → x ≡ pos 0 → ⊥
          none x h e = omega (arith, ints)

  soon_by_stays : (model : Model) (n d m e k b : ℤ) → pos 0 ≤ℤ n → pos 1 ≤ℤ d → pos 0 ≤ℤ m → pos 1 ≤ℤ e → pos 1 ≤ℤ b → (n *ℤ e) ≤ℤ (m *ℤ d) → (m *ℤ b) ≤ℤ (k *ℤ e)
      → square_of (radius_at volume bounds m e) <ℤ dot_of (place_at leg m e) (place_at leg m e) → N k b → MayBeSoonBy leg volume bounds model n d → MayBeSoonBy leg volume bounds model m e
  soon_by_stays Tau n d m e k b n0 d1 m0 e1 b1 from upto far near soon = soon_stays n d m e k b n0 d1 m0 e1 b1 from upto far near soon
  soon_by_stays Tcpa n d m e k b n0 d1 m0 e1 b1 from upto far near soon = soon_stays n d m e k b n0 d1 m0 e1 b1 from upto far near soon
  soon_by_stays Taumod n d m e k b n0 d1 m0 e1 b1 from upto far near soon = soon_stays n d m e k b n0 d1 m0 e1 b1 from upto far near soon
  soon_by_stays Tep n d m e k b n0 d1 m0 e1 b1 from upto far near soon = tt

  -- ---- over the vertical window from p to q
  module _ (p q : Point) (w : IsWindow leg.secs (MayViolateVertically leg volume bounds) p q) where
    abbrev later : ℤ
    later = q.num +ℤ pos volume.tthr *ℤ q.den

    abbrev Comes : Type 0
    Comes = HoldsBetween N p.num p.den later q.den

    abbrev IsSoonEnough : Type 0
    IsSoonEnough = HoldsBetween N p.num p.den q.num q.den ⊎ MayBeSoonBy leg volume bounds volume.model q.num q.den

    -- a time of the window is one of the leg
    in_leg : (n d : ℤ) → IsBetween p q n d → IsTime leg.secs n d
    in_leg n d b = record {
      fraction = b.fraction;
      from = cancel_le p.den n (positive w.first.fraction)
          (le_trans_ℤ _ _ _ (mul_nonneg p.num d w.first.from (natural b.fraction))
          (subst (λ (z : ℤ). (p.num *ℤ d) ≤ℤ z) (let A = # 0 in let B = # 1 in ring (n ∷ p.den ∷ []) (A ⊗ B) (B ⊗ A) tt) b.from));
      upto = subst (λ (z : ℤ). z ≤ℤ (pos leg.secs *ℤ d)) (let A = # 0 in ring (n ∷ []) (A ⊗ lit (pos 1)) A tt)
          (trans n d q.num q.den (pos leg.secs) (pos 1) (natural b.fraction) w.last.fraction (omega (arith, ints)) b.upto
          (subst (λ (z : ℤ). z ≤ℤ (pos leg.secs *ℤ q.den)) (let A = # 0 in ring (q.num ∷ []) A (A ⊗ lit (pos 1)) tt) w.last.upto));
    }
      where
        positive : {x : ℤ} → pos 1 ≤ℤ x → pos 0 <ℤ x
        positive h = omega (arith, ints)

    near_within : (n d : ℤ) → IsBetween p q n d → N n d → HoldsSometime leg.secs (MayViolate leg volume bounds)
    near_within n d b near = record {
      num = n;
      den = d;
      time = in_leg n d b;
      holds = record { horizontal = inl near; vertical = (w.exact n d (in_leg n d b)).1 b };
    }

    decided_in : Comes × IsSoonEnough → HoldsSometime leg.secs (MayViolate leg volume bounds)
    decided_in h = ⊎_elim (λ mid. near_within mid.num mid.den (record { fraction = mid.fraction; from = mid.from; upto = mid.upto }) mid.holds) soon h.1
      where
        soon : MayBeSoonBy leg volume bounds volume.model q.num q.den → HoldsSometime leg.secs (MayViolate leg volume bounds)
        soon s = by_lt_z (q.num *ℤ h.0.den) (h.0.num *ℤ q.den)
            (λ after. record {
              num = q.num;
              den = q.den;
              time = w.last;
              holds = record {
                horizontal = inr (record {
                  near = record { num = h.0.num; den = h.0.den; fraction = h.0.fraction; from = less _ _ after; upto = h.0.upto; holds = h.0.holds };
                  soon = s;
                });
                vertical = w.holds_last;
              };
            })
            (λ within. near_within h.0.num h.0.den (record { fraction = h.0.fraction; from = h.0.from; upto = within }) h.0.holds)
          where
            less : (x y : ℤ) → x <ℤ y → x ≤ℤ y
            less x y h = omega (arith, ints)

    decided_out : HoldsSometime leg.secs (MayViolate leg volume bounds) → Comes × IsSoonEnough
    decided_out h = ⊎_elim near enters h.holds.horizontal
      where
        n : ℤ
        n = h.num

        d : ℤ
        d = h.den

        b : IsBetween p q n d
        b = (w.exact n d h.time).0 h.holds.vertical

        d0 : pos 0 ≤ℤ d
        d0 = natural h.time.fraction

        less : (x y : ℤ) → x <ℤ y → x ≤ℤ y
        less x y h = omega (arith, ints)

        -- to the last time of the window and on is to what comes later
        on : (q.num *ℤ q.den) ≤ℤ (later *ℤ q.den)
        on = by_rest _ _ _
            (let N = # 0 in let D = # 1 in let T = # 2 in ring (q.num ∷ q.den ∷ pos volume.tthr ∷ []) ((N ⊕ T ⊗ D) ⊗ D ⊖ N ⊗ D) (T ⊗ (D ⊗ D)) tt)
            (mul_nonneg (pos volume.tthr) _ (nat0 volume.tthr) (square_nonneg q.den))

        near : N n d → Comes × IsSoonEnough
        near k = (
          record {
            num = n;
            den = d;
            fraction = h.time.fraction;
            from = b.from;
            upto = trans n d q.num q.den later q.den d0 w.last.fraction (natural w.last.fraction) b.upto on;
            holds = k;
          },
          inl (record { num = n; den = d; fraction = h.time.fraction; from = b.from; upto = b.upto; holds = k }),
        )

        enters : MayEnter leg volume bounds n d → Comes × IsSoonEnough
        enters e = (
          record {
            num = e.near.num;
            den = e.near.den;
            fraction = e.near.fraction;
            from = from;
            upto = trans e.near.num e.near.den (n +ℤ pos volume.tthr *ℤ d) d later q.den (natural e.near.fraction) h.time.fraction (natural w.last.fraction) e.near.upto
                (by_rest _ _ _
                (let N = # 0 in let D = # 1 in let M = # 2 in let E = # 3 in let T = # 4 in
                ring (n ∷ d ∷ q.num ∷ q.den ∷ pos volume.tthr ∷ []) ((M ⊕ T ⊗ E) ⊗ D ⊖ (N ⊕ T ⊗ D) ⊗ E) (M ⊗ D ⊖ N ⊗ E) tt)
                (rest _ _ b.upto));
            holds = e.near.holds;
          },
          by_lt_z (q.num *ℤ e.near.den) (e.near.num *ℤ q.den)
              (λ after. by_lt_z (square_of (radius_at volume bounds q.num q.den)) (dot_of (place_at leg q.num q.den) (place_at leg q.num q.den))
              (λ far. inr (soon_by_stays volume.model n d q.num q.den e.near.num e.near.den h.time.from h.time.fraction w.last.from w.last.fraction e.near.fraction b.upto (less _ _ after) far
              e.near.holds e.soon))
              (λ there. inl (record {
                num = q.num;
                den = q.den;
                fraction = w.last.fraction;
                from = trans p.num p.den n d q.num q.den (natural w.first.fraction) h.time.fraction (natural w.last.fraction) b.from b.upto;
                upto = self _;
                holds = there;
              })))
              (λ within. inl (record { num = e.near.num; den = e.near.den; fraction = e.near.fraction; from = from; upto = within; holds = e.near.holds })),
        )
          where
            from : (p.num *ℤ e.near.den) ≤ℤ (e.near.num *ℤ p.den)
            from = trans p.num p.den n d e.near.num e.near.den (natural w.first.fraction) h.time.fraction (natural e.near.fraction) b.from e.near.from

    pub decides : (Comes × IsSoonEnough) ↔ HoldsSometime leg.secs (MayViolate leg volume bounds)
    decides = (decided_in, decided_out)

    -- the last time is not before the first, nor what comes after it
    pub to_last : (p.num *ℤ q.den) ≤ℤ (q.num *ℤ p.den)
    to_last = ((w.exact q.num q.den w.last).0 w.holds_last).from

    pub to_later : (p.num *ℤ q.den) ≤ℤ (later *ℤ p.den)
    to_later = trans p.num p.den q.num q.den later q.den (natural w.first.fraction) w.last.fraction (natural w.last.fraction) to_last
        (by_rest _ _ _
        (let N = # 0 in let D = # 1 in let T = # 2 in ring (q.num ∷ q.den ∷ pos volume.tthr ∷ []) ((N ⊕ T ⊗ D) ⊗ D ⊖ N ⊗ D) (T ⊗ (D ⊗ D)) tt)
        (mul_nonneg (pos volume.tthr) _ (nat0 volume.tthr) (square_nonneg q.den)))
