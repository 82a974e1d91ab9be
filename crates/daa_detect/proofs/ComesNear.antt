-- What violates horizontally comes within dthr in at most tthr seconds; so what stays beyond dthr for that long violates at no time.
use Rattle.std.proofs.Common.{[], ◌∷◌, ◌≡◌, ℕ, ◌+◌, ◌≤◌, inl, inr, ⊎_elim, sym, subst, ◌∙◌, arith, ℤ, pos, ◌+ℤ◌, ◌*ℤ◌, ◌-ℤ◌, neg_ℤ, ◌≤ℤ◌, ◌<ℤ◌}
use Rattle.std.proofs.lemmas.Int.{ints}
use Rattle.daa_fixed.proofs.Ring.{mul_nonneg, square_nonneg, ring, #, lit, ⊝, ◌⊕◌, ◌⊖◌, ◌⊗◌}
use Rattle.daa_fixed.proofs.Integers.{mul_pos, cancel_lt, rest, by_rest, below_by_rest, root_within, clash, sum_nonneg}
use Rattle.daa_fixed.specs.declared.Flat.{Flat}
use Rattle.daa_fixed.specs.declared.Leg.{Leg}
use Rattle.daa_fixed.specs.Flat.{dot_of, cross_of, square_of}
use Rattle.daa_fixed.specs.Time.{IsTime, HoldsSometime, HoldsNever}
use Rattle.daa_taumod.specs.declared.Volume.{Volume}
use Rattle.daa_taumod.specs.Volume.{place_at, IsNear, IsClosing, ViolatesHorizontally, Violates}
use Rattle.daa_fixed.proofs.Lengths.{nearing_moves}
use Rattle.daa_taumod.proofs.ClosestApproach.{closest_or_near}
use Rattle.daa_detect.specs.Inside.Far.{StaysBeyond, IsFar}

-- ---- at the closest approach
-- the square of a s - (s.v) v, where a is v.v: a times that of s x v
at_closest : (s v : Flat) (q : ℤ) → (cross_of s v *ℤ cross_of s v) ≤ℤ (q *ℤ q *ℤ dot_of v v) → pos 0 ≤ℤ dot_of v v
    → (square_of (dot_of v v *ℤ s.east -ℤ dot_of s v *ℤ v.east) +ℤ square_of (dot_of v v *ℤ s.north -ℤ dot_of s v *ℤ v.north)) ≤ℤ square_of (q *ℤ dot_of v v)
at_closest s v q near a0 =
    let X = # 0 in let Y = # 1 in let U = # 2 in let V = # 3 in let Q = # 4 in
    let A = U ⊗ U ⊕ V ⊗ V in let B = X ⊗ U ⊕ Y ⊗ V in let C = X ⊗ V ⊖ Y ⊗ U in
    by_rest _ _ _
    (ring (s.east ∷ s.north ∷ v.east ∷ v.north ∷ q ∷ [])
    ((Q ⊗ A) ⊗ (Q ⊗ A) ⊖ ((A ⊗ X ⊖ B ⊗ U) ⊗ (A ⊗ X ⊖ B ⊗ U) ⊕ (A ⊗ Y ⊖ B ⊗ V) ⊗ (A ⊗ Y ⊖ B ⊗ V)))
    (A ⊗ (Q ⊗ Q ⊗ A ⊖ C ⊗ C))
    tt)
    (mul_nonneg (dot_of v v) _ a0 (rest _ _ near))

module _ (leg : Leg) (volume : Volume) where
  abbrev vv : ℤ
  vv = dot_of leg.velocity.flat leg.velocity.flat

  -- the leg, flown on for tthr seconds
  abbrev whole : ℕ
  whole = leg.secs + volume.tthr

  more_secs : pos whole ≡ pos leg.secs +ℤ pos volume.tthr
  more_secs = omega (arith, ints)

  module _ (n d : ℤ) (time : IsTime leg.secs n d) where
    d0 : pos 0 ≤ℤ d
    d0 = omega (arith, ints, time.fraction)

    abbrev s : Flat
    s = place_at leg n d

    abbrev sv : ℤ
    sv = dot_of s leg.velocity.flat

    now_near : IsNear leg volume n d → HoldsSometime whole (IsNear leg volume)
    now_near near = record {
      num = n;
      den = d;
      time = record {
        fraction = time.fraction;
        from = time.from;
        upto = by_rest n (pos whole *ℤ d) _ (let S = # 0 in let T = # 1 in let N = # 2 in let D = # 3 in
            (λ i. more_secs i *ℤ d -ℤ n) ∙ ring (pos leg.secs ∷ pos volume.tthr ∷ n ∷ d ∷ []) ((S ⊕ T) ⊗ D ⊖ N) ((S ⊗ D ⊖ N) ⊕ T ⊗ D) tt)
            (sum_nonneg _ _ (rest _ _ time.upto) (mul_nonneg (pos volume.tthr) d (omega (arith, ints)) d0));
      };
      holds = near;
    }

    module _ (c : IsClosing leg volume n d) where
      moves : pos 0 <ℤ vv
      moves = nearing_moves s leg.velocity.flat c.nearing

      vv0 : pos 0 ≤ℤ vv
      vv0 = omega (arith, ints, moves)

      -- the closest approach is at most tthr seconds off, and near
      closest_soon : neg_ℤ sv ≤ℤ (pos volume.tthr *ℤ d *ℤ vv) → HoldsSometime whole (IsNear leg volume)
      closest_soon soon = record {
        num = n *ℤ vv -ℤ sv;
        den = d *ℤ vv;
        time = record {
          fraction = at_least_one _ (mul_pos d vv (omega (arith, ints, time.fraction)) moves);
          from = less_negative _ _ (mul_nonneg n vv time.from vv0) c.nearing;
          upto = by_rest _ _ _
              (let S = # 0 in let T = # 1 in let N = # 2 in let D = # 3 in let A = # 4 in let B = # 5 in
              (λ i. more_secs i *ℤ (d *ℤ vv) -ℤ (n *ℤ vv -ℤ sv))
              ∙ ring (pos leg.secs ∷ pos volume.tthr ∷ n ∷ d ∷ vv ∷ sv ∷ []) ((S ⊕ T) ⊗ (D ⊗ A) ⊖ (N ⊗ A ⊖ B)) (A ⊗ (S ⊗ D ⊖ N) ⊕ (T ⊗ D ⊗ A ⊖ ⊝ B)) tt)
              (sum_nonneg _ _ (mul_nonneg vv _ vv0 (rest _ _ time.upto)) (rest _ _ soon));
        };
        holds = subst (λ (z : ℤ). z ≤ℤ square_of (pos volume.dthr *ℤ (d *ℤ vv))) (sym there)
            (subst (λ (z : ℤ). (square_of (vv *ℤ s.east -ℤ sv *ℤ leg.velocity.flat.east)
            +ℤ square_of (vv *ℤ s.north -ℤ sv *ℤ leg.velocity.flat.north)) ≤ℤ square_of z)
            (assoc (pos volume.dthr) d vv) (at_closest s leg.velocity.flat (pos volume.dthr *ℤ d) c.near vv0));
      }
        where
          at_least_one : (x : ℤ) → pos 0 <ℤ x → pos 1 ≤ℤ x
          at_least_one x h = omega (arith, ints)

          less_negative : (x y : ℤ) → pos 0 ≤ℤ x → y <ℤ pos 0 → pos 0 ≤ℤ (x -ℤ y)
          less_negative x y h k = omega (arith, ints)

          assoc : (r d a : ℤ) → r *ℤ d *ℤ a ≡ r *ℤ (d *ℤ a)
          assoc r d a = let R = # 0 in let D = # 1 in let A = # 2 in ring (r ∷ d ∷ a ∷ []) (R ⊗ D ⊗ A) (R ⊗ (D ⊗ A)) tt

          axis : (x v a u : ℤ) → (d *ℤ a) *ℤ x +ℤ (n *ℤ a -ℤ u) *ℤ v ≡ a *ℤ (d *ℤ x +ℤ n *ℤ v) -ℤ u *ℤ v
          axis x v a u =
              let X = # 0 in let V = # 1 in let A = # 2 in let U = # 3 in let N = # 4 in let D = # 5 in
              ring (x ∷ v ∷ a ∷ u ∷ n ∷ d ∷ []) ((D ⊗ A) ⊗ X ⊕ (N ⊗ A ⊖ U) ⊗ V) (A ⊗ (D ⊗ X ⊕ N ⊗ V) ⊖ U ⊗ V) tt

          there : dot_of (place_at leg (n *ℤ vv -ℤ sv) (d *ℤ vv)) (place_at leg (n *ℤ vv -ℤ sv) (d *ℤ vv))
              ≡ square_of (vv *ℤ s.east -ℤ sv *ℤ leg.velocity.flat.east) +ℤ square_of (vv *ℤ s.north -ℤ sv *ℤ leg.velocity.flat.north)
          there = λ i. square_of (axis leg.place.flat.east leg.velocity.flat.east vv sv i) +ℤ square_of (axis leg.place.flat.north leg.velocity.flat.north vv sv i)

    -- the distance is at most dthr after tthr seconds
    near_later : IsNear leg volume (n +ℤ pos volume.tthr *ℤ d) d → HoldsSometime whole (IsNear leg volume)
    near_later near = record {
      num = n +ℤ pos volume.tthr *ℤ d;
      den = d;
      time = record {
        fraction = time.fraction;
        from = sum_nonneg _ _ time.from (mul_nonneg (pos volume.tthr) d (omega (arith, ints)) d0);
        upto = by_rest _ _ _
            (let S = # 0 in let T = # 1 in let N = # 2 in let D = # 3 in
            (λ i. more_secs i *ℤ d -ℤ (n +ℤ pos volume.tthr *ℤ d))
            ∙ ring (pos leg.secs ∷ pos volume.tthr ∷ n ∷ d ∷ []) ((S ⊕ T) ⊗ D ⊖ (N ⊕ T ⊗ D)) (S ⊗ D ⊖ N) tt)
            (rest _ _ time.upto);
      };
      holds = near;
    }

    pub comes_near : ViolatesHorizontally leg volume n d → HoldsSometime whole (IsNear leg volume)
    comes_near (inl near) = now_near near
    comes_near (inr c) = ⊎_elim (λ soon. closest_soon c soon) near_later (closest_or_near leg volume n d time.fraction c.nearing c.near volume.model c.soon)

-- ---- what stays beyond is never near
-- what is positive at both ends of m seconds is positive between them
positive_between : (p w m n d : ℤ) → pos 1 ≤ℤ m → pos 1 ≤ℤ d → pos 0 ≤ℤ n → n ≤ℤ (m *ℤ d) → pos 0 <ℤ p → pos 0 <ℤ (p +ℤ m *ℤ w) → pos 0 <ℤ (d *ℤ p +ℤ n *ℤ w)
positive_between p w m n d m1 d1 n0 nm first last =
    let P = # 0 in let W = # 1 in let M = # 2 in let N = # 3 in let D = # 4 in
    cancel_lt m (d *ℤ p +ℤ n *ℤ w) (omega (arith, ints, m1))
    (subst (λ (z : ℤ). pos 0 <ℤ z)
    (ring (p ∷ w ∷ m ∷ n ∷ d ∷ []) (M ⊗ D ⊕ ((M ⊗ D ⊖ N) ⊗ (P ⊖ lit (pos 1)) ⊕ N ⊗ (P ⊕ M ⊗ W ⊖ lit (pos 1)))) (M ⊗ (D ⊗ P ⊕ N ⊗ W)) tt)
    (more _ _ _ (mul_pos m d (omega (arith, ints, m1)) (omega (arith, ints, d1))) (mul_nonneg _ _ (rest _ _ nm) (less_one p first)) (mul_nonneg n _ n0 (less_one (p +ℤ m *ℤ w) last))))
  where
    less_one : (x : ℤ) → pos 0 <ℤ x → pos 0 ≤ℤ (x -ℤ pos 1)
    less_one x h = omega (arith, ints)

    more : (x y z : ℤ) → pos 0 <ℤ x → pos 0 ≤ℤ y → pos 0 ≤ℤ z → pos 0 <ℤ (x +ℤ (y +ℤ z))
    more x y z h k l = omega (arith, ints)

above : (x y : ℤ) → x <ℤ y → pos 0 <ℤ (y -ℤ x)
above x y h = omega (arith, ints)

above_end : (r b w : ℤ) → r <ℤ (b +ℤ w) → pos 0 <ℤ (b -ℤ r +ℤ w)
above_end r b w h = omega (arith, ints)

without : (x y z : ℤ) → pos 0 ≤ℤ (y *ℤ y) → (x *ℤ x +ℤ y *ℤ y) ≤ℤ z → (x *ℤ x) ≤ℤ z
without x y z h k = omega (arith, ints)

mirrored : (x : ℤ) → neg_ℤ x *ℤ neg_ℤ x ≡ x *ℤ x
mirrored x = let X = # 0 in ring (x ∷ []) (⊝ X ⊗ ⊝ X) (X ⊗ X) tt

-- one axis: the distance there alone is more than r
axis_beyond : (b v : ℤ) (m r : ℕ) (n d y : ℤ) → 1 ≤ m → StaysBeyond b v m r → IsTime m n d
    → ((d *ℤ b +ℤ n *ℤ v) *ℤ (d *ℤ b +ℤ n *ℤ v) +ℤ y *ℤ y) ≤ℤ square_of (pos r *ℤ d) → ⊥
axis_beyond b v m r n d y m1 (inl far) time near =
    let B = # 0 in let V = # 1 in let R = # 2 in let N = # 3 in let D = # 4 in
    let x = d *ℤ b +ℤ n *ℤ v in
    clash x (pos r *ℤ d) (root_within x (pos r *ℤ d) (mul_nonneg (pos r) d (omega (arith, ints)) (omega (arith, ints, time.fraction))) (without x y _ (square_nonneg y) near))
    (below_by_rest (pos r *ℤ d) x (d *ℤ (b -ℤ pos r) +ℤ n *ℤ v)
    (ring (b ∷ v ∷ pos r ∷ n ∷ d ∷ []) (D ⊗ B ⊕ N ⊗ V ⊖ R ⊗ D) (D ⊗ (B ⊖ R) ⊕ N ⊗ V) tt)
    (positive_between (b -ℤ pos r) v (pos m) n d (omega (arith, ints, m1)) time.fraction time.from time.upto (above (pos r) b far.0) (above_end (pos r) b (pos m *ℤ v) far.1)))
axis_beyond b v m r n d y m1 (inr far) time near =
    let B = # 0 in let V = # 1 in let R = # 2 in let N = # 3 in let D = # 4 in let M = # 5 in
    let x = d *ℤ b +ℤ n *ℤ v in
    clash (neg_ℤ x) (pos r *ℤ d) (root_within (neg_ℤ x) (pos r *ℤ d) (mul_nonneg (pos r) d (omega (arith, ints))
    (omega (arith, ints, time.fraction))) (rw (mirrored x) (without x y _ (square_nonneg y) near)))
    (below_by_rest (pos r *ℤ d) (neg_ℤ x) (d *ℤ (neg_ℤ (pos r) -ℤ b) +ℤ n *ℤ neg_ℤ v)
    (ring (b ∷ v ∷ pos r ∷ n ∷ d ∷ []) (⊝ (D ⊗ B ⊕ N ⊗ V) ⊖ R ⊗ D) (D ⊗ (⊝ R ⊖ B) ⊕ N ⊗ ⊝ V) tt)
    (positive_between (neg_ℤ (pos r) -ℤ b) (neg_ℤ v) (pos m) n d (omega (arith, ints, m1)) time.fraction time.from time.upto (above b (neg_ℤ (pos r)) far.0)
    (subst (λ (z : ℤ). pos 0 <ℤ z)
    (ring (b ∷ v ∷ pos r ∷ n ∷ d ∷ pos m ∷ []) (⊝ R ⊖ (B ⊕ M ⊗ V)) (⊝ R ⊖ B ⊕ M ⊗ ⊝ V) tt)
    (above (b +ℤ pos m *ℤ v) (neg_ℤ (pos r)) far.1))))

far_never_near : (leg : Leg) (volume : Volume) → 1 ≤ leg.secs → IsFar leg volume → HoldsNever (leg.secs + volume.tthr) (IsNear leg volume)
far_never_near leg volume some (inl east) n d time near =
    axis_beyond leg.place.flat.east leg.velocity.flat.east (leg.secs + volume.tthr) volume.dthr n d (place_at leg n d).north (omega (arith, some)) east time near
far_never_near leg volume some (inr north) n d time near =
    axis_beyond leg.place.flat.north leg.velocity.flat.north (leg.secs + volume.tthr) volume.dthr n d (place_at leg n d).east (omega (arith, some)) north time
    (exchange ((place_at leg n d).east *ℤ (place_at leg n d).east) ((place_at leg n d).north *ℤ (place_at leg n d).north) _ near)
  where
    exchange : (x y z : ℤ) → (x +ℤ y) ≤ℤ z → (y +ℤ x) ≤ℤ z
    exchange x y z h = omega (arith, ints)

pub far_never : (leg : Leg) (volume : Volume) → 1 ≤ leg.secs → IsFar leg volume → HoldsNever leg.secs (Violates leg volume)
far_never leg volume some far n d time v =
    let near = comes_near leg volume n d time v.horizontal in
    far_never_near leg volume some far near.num near.den near.time near.holds
