-- What the closest approach of a straight line, and a time later, say of the models.
use Rattle.std.proofs.Common.{List, [], ◌∷◌, ◌≡◌, ◌↔◌, ◌⊎◌, ◌≤◌, inl, inr, ⊎_elim, refl, sym, subst, ◌∙◌, arith, ℤ, pos, ◌+ℤ◌, ◌*ℤ◌, ◌-ℤ◌, neg_ℤ, ◌≤ℤ◌, ◌<ℤ◌}
use Rattle.std.proofs.lemmas.Int.{ints, by_lt_z}
use Rattle.daa_fixed.proofs.Ring.{mul_nonneg, square_nonneg, ring, Poly, #, lit, ⊝, ◌⊕◌, ◌⊖◌, ◌⊗◌}
use Rattle.daa_fixed.proofs.Integers.{mul_pos, cancel_le, rest, by_rest, sum_nonneg}
use Rattle.daa_fixed.proofs.Lengths.{lagrange, nearing_moves}
use Rattle.daa_fixed.specs.declared.Flat.{Flat}
use Rattle.daa_fixed.specs.declared.Leg.{Leg}
use Rattle.daa_fixed.specs.Flat.{dot_of, cross_of, square_of}
use Rattle.daa_taumod.specs.declared.Model.{Model}
use Rattle.daa_taumod.specs.declared.Model.TheVariants.{Tau, Tcpa, Taumod, Tep}
use Rattle.daa_taumod.specs.declared.Volume.{Volume}
use Rattle.daa_taumod.specs.Volume.{place_of, with_model, place_at, IsNear, IsSoon, PassesNear, ViolatesHorizontally, ViolatesVertically, Violates}

-- ---- whether the line passes near does not depend on the time
-- r r a is at least x x where it is so d times over
pub unscaled : (a x r d : ℤ) → pos 0 <ℤ d → ((d *ℤ x) *ℤ (d *ℤ x)) ≤ℤ ((r *ℤ d) *ℤ (r *ℤ d) *ℤ a) → (x *ℤ x) ≤ℤ (r *ℤ r *ℤ a)
unscaled a x r d d1 near =
    let A = # 0 in let X = # 1 in let R = # 2 in let D = # 3 in
    by_rest _ _ _ refl
    (cancel_le (d *ℤ d) (r *ℤ r *ℤ a -ℤ x *ℤ x) (mul_pos d d d1 d1)
    (subst (λ (z : ℤ). pos 0 ≤ℤ z) (ring (a ∷ x ∷ r ∷ d ∷ []) ((R ⊗ D) ⊗ (R ⊗ D) ⊗ A ⊖ (D ⊗ X) ⊗ (D ⊗ X)) ((D ⊗ D) ⊗ (R ⊗ R ⊗ A ⊖ X ⊗ X)) tt) (rest _ _ near)))

pub scaled : (a x r d : ℤ) → (x *ℤ x) ≤ℤ (r *ℤ r *ℤ a) → ((d *ℤ x) *ℤ (d *ℤ x)) ≤ℤ ((r *ℤ d) *ℤ (r *ℤ d) *ℤ a)
scaled a x r d near =
    let A = # 0 in let X = # 1 in let R = # 2 in let D = # 3 in
    by_rest _ _ _
    (ring (a ∷ x ∷ r ∷ d ∷ []) ((R ⊗ D) ⊗ (R ⊗ D) ⊗ A ⊖ (D ⊗ X) ⊗ (D ⊗ X)) ((D ⊗ D) ⊗ (R ⊗ R ⊗ A ⊖ X ⊗ X)) tt)
    (mul_nonneg (d *ℤ d) _ (square_nonneg d) (rest _ _ near))

-- the cross product is the same all along the line
pub cross_at : (leg : Leg) (n d : ℤ) → cross_of (place_at leg n d) leg.velocity.flat ≡ d *ℤ cross_of leg.place.flat leg.velocity.flat
cross_at leg n d =
    let E = # 0 in let N = # 1 in let U = # 2 in let V = # 3 in let K = # 4 in let D = # 5 in
    ring (leg.place.flat.east ∷ leg.place.flat.north ∷ leg.velocity.flat.east ∷ leg.velocity.flat.north ∷ n ∷ d ∷ [])
    ((D ⊗ E ⊕ K ⊗ U) ⊗ V ⊖ (D ⊗ N ⊕ K ⊗ V) ⊗ U)
    (D ⊗ (E ⊗ V ⊖ N ⊗ U))
    tt

module _ (leg : Leg) (volume : Volume) where
  abbrev vv : ℤ
  vv = dot_of leg.velocity.flat leg.velocity.flat

  abbrev miss : ℤ
  miss = cross_of leg.place.flat leg.velocity.flat

  pub passes_near-always : (n d : ℤ) → pos 1 ≤ℤ d → (square_of miss ≤ℤ (square_of (pos volume.dthr) *ℤ vv)) ↔ PassesNear leg volume n d
  passes_near-always n d h = (
    (λ k. subst (λ (x : ℤ). square_of x ≤ℤ (square_of (pos volume.dthr *ℤ d) *ℤ vv)) (sym (cross_at leg n d)) (scaled vv miss (pos volume.dthr) d k)),
    (λ k. unscaled vv miss (pos volume.dthr) d (omega (arith, ints)) (subst (λ (x : ℤ). square_of x ≤ℤ (square_of (pos volume.dthr *ℤ d) *ℤ vv)) (cross_at leg n d) k)),
  )

-- ---- one model within the next
-- what has a tau within t, times a positive number, reaches its closest approach within t: a is v.v, c is s x v, p is s.s, and
-- u is s.v
pub closest_from_tau : (a c p u t : ℤ) → pos 0 <ℤ a → u <ℤ pos 0 → p *ℤ a ≡ u *ℤ u +ℤ c *ℤ c → (p +ℤ t *ℤ u) ≤ℤ pos 0 → neg_ℤ u ≤ℤ (t *ℤ a)
closest_from_tau a c p u t a1 u1 e soon =
    let A = # 0 in let C = # 1 in let P = # 2 in let U = # 3 in let T = # 4 in
    let ρ : List ℤ = a ∷ c ∷ p ∷ u ∷ t ∷ [] in
    by_rest _ _ _ refl (cancel_le (neg_ℤ u) _ (omega (arith, ints))
    (subst (λ (z : ℤ). pos 0 ≤ℤ z)
    (ring ρ (A ⊗ (lit (pos 0) ⊖ (P ⊕ T ⊗ U)) ⊕ C ⊗ C) (C ⊗ C ⊖ T ⊗ U ⊗ A ⊖ P ⊗ A) tt
    ∙ (λ i. c *ℤ c -ℤ t *ℤ u *ℤ a -ℤ e i)
    ∙ ring ρ (C ⊗ C ⊖ T ⊗ U ⊗ A ⊖ (U ⊗ U ⊕ C ⊗ C)) (⊝ U ⊗ (T ⊗ A ⊖ ⊝ U)) tt)
    (sum_nonneg _ _ (mul_nonneg a _ (omega (arith, ints)) (rest _ _ soon)) (square_nonneg c))))

-- what reaches its closest approach within t has a modified tau within t: r is the distance
pub tau_from_closest : (a c p u r t : ℤ) → pos 0 <ℤ a → u <ℤ pos 0 → p *ℤ a ≡ u *ℤ u +ℤ c *ℤ c → (c *ℤ c) ≤ℤ (r *ℤ r *ℤ a) → neg_ℤ u ≤ℤ (t *ℤ a) → (p +ℤ t *ℤ u) ≤ℤ (r *ℤ r)
tau_from_closest a c p u r t a1 u1 e near soon =
    let A = # 0 in let C = # 1 in let P = # 2 in let U = # 3 in let R = # 4 in let T = # 5 in
    let ρ : List ℤ = a ∷ c ∷ p ∷ u ∷ r ∷ t ∷ [] in
    by_rest _ _ _ refl (cancel_le a _ a1
    (subst (λ (z : ℤ). pos 0 ≤ℤ z)
    (ring ρ ((R ⊗ R ⊗ A ⊖ C ⊗ C) ⊕ ⊝ U ⊗ (T ⊗ A ⊖ ⊝ U)) (R ⊗ R ⊗ A ⊖ T ⊗ U ⊗ A ⊖ (U ⊗ U ⊕ C ⊗ C)) tt
    ∙ (λ i. r *ℤ r *ℤ a -ℤ t *ℤ u *ℤ a -ℤ sym e i)
    ∙ ring ρ (R ⊗ R ⊗ A ⊖ T ⊗ U ⊗ A ⊖ P ⊗ A) (A ⊗ (R ⊗ R ⊖ (P ⊕ T ⊗ U))) tt)
    (sum_nonneg _ _ (rest _ _ near) (mul_nonneg (neg_ℤ u) _ (omega (arith, ints)) (rest _ _ soon)))))

module _ (leg : Leg) (volume : Volume) (n d : ℤ) where
  abbrev s : Flat
  s = place_at leg n d

  abbrev v : Flat
  v = leg.velocity.flat

  -- tthr seconds later, times d
  abbrev later : ℤ
  later = n +ℤ pos volume.tthr *ℤ d

  abbrev E : Poly
  E = # 0

  abbrev N : Poly
  N = # 1

  abbrev U : Poly
  U = # 2

  abbrev V : Poly
  V = # 3

  abbrev K : Poly
  K = # 4

  abbrev D : Poly
  D = # 5

  abbrev T : Poly
  T = # 6

  abbrev R : Poly
  R = # 7

  abbrev ρ : List ℤ
  ρ = leg.place.flat.east ∷ leg.place.flat.north ∷ leg.velocity.flat.east ∷ leg.velocity.flat.north ∷ n ∷ d ∷ pos volume.tthr ∷ pos volume.dthr ∷ []

  abbrev SE : Poly
  SE = D ⊗ E ⊕ K ⊗ U

  abbrev SN : Poly
  SN = D ⊗ N ⊕ K ⊗ V

  abbrev LE : Poly
  LE = D ⊗ E ⊕ (K ⊕ T ⊗ D) ⊗ U

  abbrev LN : Poly
  LN = D ⊗ N ⊕ (K ⊕ T ⊗ D) ⊗ V

  -- the rate of the distance later
  pub rate_later : dot_of (place_at leg later d) v ≡ dot_of s v +ℤ pos volume.tthr *ℤ d *ℤ dot_of v v
  rate_later = ring ρ (LE ⊗ U ⊕ LN ⊗ V) ((SE ⊗ U ⊕ SN ⊗ V) ⊕ T ⊗ D ⊗ (U ⊗ U ⊕ V ⊗ V)) tt

  -- by modified tau within tthr seconds, and still falling then: near by then
  near_later : pos 0 ≤ℤ d → IsSoon Taumod leg volume n d → dot_of (place_at leg later d) v <ℤ pos 0 → IsNear leg volume later d
  near_later d0 soon falls =
      by_rest _ _ _
      (ring ρ ((R ⊗ D) ⊗ (R ⊗ D) ⊖ (LE ⊗ LE ⊕ LN ⊗ LN)) (((R ⊗ D) ⊗ (R ⊗ D) ⊖ ((SE ⊗ SE ⊕ SN ⊗ SN) ⊕ T ⊗ D ⊗ (SE ⊗ U ⊕ SN ⊗ V))) ⊕ (T ⊗ D) ⊗ ⊝ (LE ⊗ U ⊕ LN ⊗ V)) tt)
      (sum_nonneg _ _ (rest _ _ soon) (mul_nonneg (pos volume.tthr *ℤ d) _ (mul_nonneg (pos volume.tthr) d (omega (arith, ints)) d0) (turned (dot_of (place_at leg later d) v) falls)))
    where
      turned : (x : ℤ) → x <ℤ pos 0 → pos 0 ≤ℤ neg_ℤ x
      turned x h = omega (arith, ints)

  -- the time to the entry point is within tthr exactly if that to the closest approach is, or it is near by then
  pub entry_is : IsSoon Tep leg volume n d ↔ (IsSoon Tcpa leg volume n d ⊎ IsNear leg volume later d)
  entry_is = (
    ⊎_elim (λ h. inl (over (dot_of s v) (pos volume.tthr *ℤ d *ℤ dot_of v v) (subst (λ (z : ℤ). pos 0 ≤ℤ z) rate_later h))) inr,
    ⊎_elim (λ h. inl (subst (λ (z : ℤ). pos 0 ≤ℤ z) (sym rate_later) (under (dot_of s v) (pos volume.tthr *ℤ d *ℤ dot_of v v) h))) inr,
  )
    where
      over : (x y : ℤ) → pos 0 ≤ℤ (x +ℤ y) → neg_ℤ x ≤ℤ y
      over x y h = omega (arith, ints)

      under : (x y : ℤ) → neg_ℤ x ≤ℤ y → pos 0 ≤ℤ (x +ℤ y)
      under x y h = omega (arith, ints)

  -- where the distance falls and the line passes near
  module _ (d1 : pos 1 ≤ℤ d) (nearing : dot_of s v <ℤ pos 0) (near : PassesNear leg volume n d) where
    pub tau_closest : IsSoon Tau leg volume n d → IsSoon Tcpa leg volume n d
    tau_closest soon = closest_from_tau (dot_of v v) (cross_of s v) (dot_of s s) (dot_of s v) (pos volume.tthr *ℤ d) (nearing_moves s v nearing) nearing (lagrange s v) soon

    pub closest_modified : IsSoon Tcpa leg volume n d → IsSoon Taumod leg volume n d
    closest_modified soon = tau_from_closest (dot_of v v) (cross_of s v) (dot_of s s) (dot_of s v)
        (pos volume.dthr *ℤ d) (pos volume.tthr *ℤ d) (nearing_moves s v nearing) nearing (lagrange s v) near soon

    pub modified_entry : IsSoon Taumod leg volume n d → IsSoon Tep leg volume n d
    modified_entry soon = by_lt_z (dot_of (place_at leg later d) v) (pos 0)
        (λ falls. inr (near_later (omega (arith, ints, d1)) soon falls))
        (λ grows. inl grows)

    -- soon by one model is soon by each later one
    pub soon_by : (inner outer : Model) → place_of inner ≤ place_of outer → IsSoon inner leg volume n d → IsSoon outer leg volume n d
    soon_by Tau Tau order soon = soon
    soon_by Tau Tcpa order soon = tau_closest soon
    soon_by Tau Taumod order soon = closest_modified (tau_closest soon)
    soon_by Tau Tep order soon = modified_entry (closest_modified (tau_closest soon))
    soon_by Tcpa Tau order soon = absurd (omega (arith, order))
    soon_by Tcpa Tcpa order soon = soon
    soon_by Tcpa Taumod order soon = closest_modified soon
    soon_by Tcpa Tep order soon = modified_entry (closest_modified soon)
    soon_by Taumod Tau order soon = absurd (omega (arith, order))
    soon_by Taumod Tcpa order soon = absurd (omega (arith, order))
    soon_by Taumod Taumod order soon = soon
    soon_by Taumod Tep order soon = modified_entry soon
    soon_by Tep Tau order soon = absurd (omega (arith, order))
    soon_by Tep Tcpa order soon = absurd (omega (arith, order))
    soon_by Tep Taumod order soon = absurd (omega (arith, order))
    soon_by Tep Tep order soon = soon

    pub soon_by_entry : (model : Model) → IsSoon model leg volume n d → IsSoon Tep leg volume n d
    soon_by_entry Tau soon = soon_by Tau Tep (omega arith) soon
    soon_by_entry Tcpa soon = soon_by Tcpa Tep (omega arith) soon
    soon_by_entry Taumod soon = soon_by Taumod Tep (omega arith) soon
    soon_by_entry Tep soon = soon

    -- by each model the closest approach is soon, or it is near tthr seconds later
    pub closest_or_near : (model : Model) → IsSoon model leg volume n d → IsSoon Tcpa leg volume n d ⊎ IsNear leg volume later d
    closest_or_near model soon = entry_is.0 (soon_by_entry model soon)

-- ---- the law of the models
horizontal_by_model : (inner outer : Model) (leg : Leg) (volume : Volume) (n d : ℤ)
    → place_of inner ≤ place_of outer → pos 1 ≤ℤ d
    → ViolatesHorizontally leg (with_model inner volume) n d → ViolatesHorizontally leg (with_model outer volume) n d
horizontal_by_model inner outer leg volume n d order d1 (inl h) = inl h
horizontal_by_model inner outer leg volume n d order d1 (inr h) =
    inr (record { nearing = h.nearing; soon = soon outer (soon_by leg volume n d d1 h.nearing h.near inner outer order (own inner h.soon)); near = h.near })
  where
    -- the thresholds are those of the volume
    own : (w : Model) → IsSoon w leg (with_model inner volume) n d → IsSoon w leg volume n d
    own Tau x = x
    own Tcpa x = x
    own Taumod x = x
    own Tep x = x

    soon : (w : Model) → IsSoon w leg volume n d → IsSoon w leg (with_model outer volume) n d
    soon Tau x = x
    soon Tcpa x = x
    soon Taumod x = x
    soon Tep x = x

vertical_by_model : (inner outer : Model) (leg : Leg) (volume : Volume) (n d : ℤ) → ViolatesVertically leg (with_model inner volume) n d → ViolatesVertically leg (with_model outer volume) n d
vertical_by_model inner outer leg volume n d (inl h) = inl h
vertical_by_model inner outer leg volume n d (inr h) = inr (record { nearing = h.nearing; soon = h.soon })

-- what violates by one model violates by each later one
pub violates_by_model : (inner outer : Model) (leg : Leg) (volume : Volume) (n d : ℤ) → place_of inner ≤ place_of outer
    → pos 1 ≤ℤ d → Violates leg (with_model inner volume) n d → Violates leg (with_model outer volume) n d
violates_by_model inner outer leg volume n d order d1 h = record {
  horizontal = horizontal_by_model inner outer leg volume n d order d1 h.horizontal;
  vertical = vertical_by_model inner outer leg volume n d h.vertical;
}

-- horizontally the volume lies within that by the time to the entry point
pub horizontal_by_entry : (leg : Leg) (volume : Volume) (n d : ℤ) → pos 1 ≤ℤ d → ViolatesHorizontally leg volume n d → ViolatesHorizontally leg (with_model Tep volume) n d
horizontal_by_entry leg volume n d d1 (inl h) = inl h
horizontal_by_entry leg volume n d d1 (inr h) = inr (record { nearing = h.nearing; soon = soon_by_entry leg volume n d d1 h.nearing h.near volume.model h.soon; near = h.near })
