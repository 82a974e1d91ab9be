-- Errors that stay as they are from the reports on.
use Rattle.std.proofs.Common.{[], ◌∷◌, ◌≡◌, subst, arith, ℕ, ◌+◌, ◌*◌, ◌≤◌, ℤ, pos, ◌+ℤ◌, ◌-ℤ◌, ◌*ℤ◌, ◌≤ℤ◌, neg_ℤ, unsigned_abs}
use Rattle.std.proofs.lemmas.Int.{ints}
use Rattle.daa_fixed.proofs.Ring.{ring, #, ⊝, ◌⊕◌, ◌⊖◌, ◌⊗◌, mul_nonneg}
use Rattle.daa_fixed.proofs.Integers.{mul_le_left, sum_nonneg}
use Rattle.daa_fixed.specs.declared.Leg.{Leg}
use Rattle.daa_taumod.specs.Volume.{place_at, height_at}
use Rattle.daa_margin.specs.ErrorBounds.{IsWithinErrors}
use Rattle.daa_margin.proofs.Sums.{len, sums, scaled_len}
use Rattle.daa_state.specs.declared.word.PairBounds.{PairBounds}
use Rattle.daa_legs.specs.Errors.{errors_on}
use Rattle.daa_meet.specs.Offset.{Offset, IsWithinBounds, true_leg}

natural : (m : ℕ) → pos 0 ≤ℤ pos m
natural m = omega (arith, ints)

-- ---- over ground
-- d times a false place after so many seconds and n/d, of a false velocity
abbrev grown_at : (e f : ℤ) (secs : ℕ) (n d : ℤ) → ℤ
grown_at e f secs n d = d *ℤ e +ℤ (d *ℤ pos secs +ℤ n) *ℤ f

time0 : (secs : ℕ) (n d : ℤ) → pos 0 ≤ℤ n → pos 0 ≤ℤ d → pos 0 ≤ℤ (d *ℤ pos secs +ℤ n)
time0 secs n d n0 d0 = sum_nonneg _ _ (mul_nonneg d (pos secs) d0 (natural secs)) n0

one_grown : (e e' f f' : ℤ) (p s secs : ℕ) (n d : ℤ) → pos 0 ≤ℤ n → pos 0 ≤ℤ d → len e e' ≤ℤ (pos p *ℤ pos p) → len f f' ≤ℤ (pos s *ℤ pos s)
    → len (grown_at e f secs n d) (grown_at e' f' secs n d) ≤ℤ (grown_at (pos p) (pos s) secs n d *ℤ grown_at (pos p) (pos s) secs n d)
one_grown e e' f f' p s secs n d n0 d0 h k = sums _ _ _ _ (d *ℤ pos p) ((d *ℤ pos secs +ℤ n) *ℤ pos s)
    (mul_nonneg d (pos p) d0 (natural p)) (mul_nonneg _ (pos s) (time0 secs n d n0 d0) (natural s))
    (scaled_len d e e' (pos p) h) (scaled_len (d *ℤ pos secs +ℤ n) f f' (pos s) k)

grown0 : (p s secs : ℕ) (n d : ℤ) → pos 0 ≤ℤ n → pos 0 ≤ℤ d → pos 0 ≤ℤ grown_at (pos p) (pos s) secs n d
grown0 p s secs n d n0 d0 = sum_nonneg _ _ (mul_nonneg d (pos p) d0 (natural p)) (mul_nonneg _ (pos s) (time0 secs n d n0 d0) (natural s))

-- the error of one is added, and that of the other taken away
apart : (a b p q m r : ℤ) → pos 0 ≤ℤ m → pos 0 ≤ℤ r → len a b ≤ℤ (m *ℤ m) → len p q ≤ℤ (r *ℤ r) → len (a +ℤ neg_ℤ p) (b +ℤ neg_ℤ q) ≤ℤ ((m +ℤ r) *ℤ (m +ℤ r))
apart a b p q m r m0 r0 h k = sums a b (neg_ℤ p) (neg_ℤ q) m r m0 r0 h
    (subst (λ (z : ℤ). z ≤ℤ (r *ℤ r)) (let P = # 0 in let Q = # 1 in ring (p ∷ q ∷ []) (P ⊗ P ⊕ Q ⊗ Q) (⊝ P ⊗ ⊝ P ⊕ ⊝ Q ⊗ ⊝ Q) tt) k)

-- what is reported less what is true, on one axis
differs : (x u e f e' f' : ℤ) (age k : ℕ) (n d : ℤ)
    → grown_at e' f' (age + k) n d +ℤ neg_ℤ (grown_at e f k n d)
    ≡ (d *ℤ x +ℤ n *ℤ u) -ℤ (d *ℤ (x +ℤ ((e +ℤ pos k *ℤ f) -ℤ (e' +ℤ pos (age + k) *ℤ f'))) +ℤ n *ℤ (u +ℤ (f -ℤ f')))
differs x u e f e' f' age k n d =
    let X = # 0 in let U = # 1 in let E = # 2 in let F = # 3 in let E2 = # 4 in let F2 = # 5 in let A = # 6 in let K = # 7 in let N = # 8 in let D = # 9 in
    ring (x ∷ u ∷ e ∷ f ∷ e' ∷ f' ∷ pos age ∷ pos k ∷ n ∷ d ∷ [])
    ((D ⊗ E2 ⊕ (D ⊗ (A ⊕ K) ⊕ N) ⊗ F2) ⊕ ⊝ (D ⊗ E ⊕ (D ⊗ K ⊕ N) ⊗ F))
    ((D ⊗ X ⊕ N ⊗ U) ⊖ (D ⊗ (X ⊕ ((E ⊕ K ⊗ F) ⊖ (E2 ⊕ (A ⊕ K) ⊗ F2))) ⊕ N ⊗ (U ⊕ (F ⊖ F2))))
    tt

speeds : (u f f' : ℤ) → f' +ℤ neg_ℤ f ≡ u -ℤ (u +ℤ (f -ℤ f'))
speeds u f f' = omega (arith, ints)

-- the sum of the two is the error of the leg
together : (c p s p' s' age k : ℕ) (n d : ℤ)
    → grown_at (pos (c * p')) (pos s') (age + k) n d +ℤ grown_at (pos (c * p)) (pos s) k n d
    ≡ d *ℤ pos (c * (p + p') + s * k + s' * (age + k)) +ℤ n *ℤ pos (s + s')
together c p s p' s' age k n d =
    let C = # 0 in let P = # 1 in let S = # 2 in let P2 = # 3 in let S2 = # 4 in let A = # 5 in let K = # 6 in let N = # 7 in let D = # 8 in
    ring (pos c ∷ pos p ∷ pos s ∷ pos p' ∷ pos s' ∷ pos age ∷ pos k ∷ n ∷ d ∷ [])
    ((D ⊗ (C ⊗ P2) ⊕ (D ⊗ (A ⊕ K) ⊕ N) ⊗ S2) ⊕ (D ⊗ (C ⊗ P) ⊕ (D ⊗ K ⊕ N) ⊗ S))
    (D ⊗ (C ⊗ (P ⊕ P2) ⊕ S ⊗ K ⊕ S2 ⊗ (A ⊕ K)) ⊕ N ⊗ (S ⊕ S2))
    tt

-- ---- heights
at_most : (e m : ℤ) → pos (unsigned_abs e) ≤ℤ m → (e ≤ℤ m) × (neg_ℤ e ≤ℤ m)
at_most e m h = (omega (arith, ints), omega (arith, ints))

size_of : (e m : ℤ) → e ≤ℤ m → neg_ℤ e ≤ℤ m → pos (unsigned_abs e) ≤ℤ m
size_of e m h k = omega (arith, ints)

high_grown : (e f : ℤ) (p s secs : ℕ) (n d : ℤ) → pos 0 ≤ℤ n → pos 0 ≤ℤ d → pos (unsigned_abs e) ≤ℤ pos p → pos (unsigned_abs f) ≤ℤ pos s
    → pos (unsigned_abs (grown_at e f secs n d)) ≤ℤ grown_at (pos p) (pos s) secs n d
high_grown e f p s secs n d n0 d0 h k =
    let t = time0 secs n d n0 d0 in
    let he = at_most e (pos p) h in
    let hf = at_most f (pos s) k in
    size_of _ _
    (added (mul_le_left d e (pos p) d0 he.0) (mul_le_left (d *ℤ pos secs +ℤ n) f (pos s) t hf.0))
    (subst (λ (z : ℤ). z ≤ℤ grown_at (pos p) (pos s) secs n d) turned (added (mul_le_left d (neg_ℤ e) (pos p) d0 he.1) (mul_le_left (d *ℤ pos secs +ℤ n) (neg_ℤ f) (pos s) t hf.1)))
  where
    added : {a b c g : ℤ} → a ≤ℤ b → c ≤ℤ g → (a +ℤ c) ≤ℤ (b +ℤ g)
    added x y = omega (arith, ints)

    turned : d *ℤ neg_ℤ e +ℤ (d *ℤ pos secs +ℤ n) *ℤ neg_ℤ f ≡ neg_ℤ (grown_at e f secs n d)
    turned = let E = # 0 in let F = # 1 in let K = # 2 in let N = # 3 in let D = # 4 in
        ring (e ∷ f ∷ pos secs ∷ n ∷ d ∷ []) (D ⊗ ⊝ E ⊕ (D ⊗ K ⊕ N) ⊗ ⊝ F) (⊝ (D ⊗ E ⊕ (D ⊗ K ⊕ N) ⊗ F)) tt

high_apart : (a b m r : ℤ) → pos (unsigned_abs a) ≤ℤ m → pos (unsigned_abs b) ≤ℤ r → pos (unsigned_abs (a +ℤ neg_ℤ b)) ≤ℤ (m +ℤ r)
high_apart a b m r h k = omega (arith, ints)

-- ---- all of it
module _ (bounds : PairBounds) (own aircraft : Offset) (leg : Leg) (age k : ℕ) (n d : ℤ) (o : IsWithinBounds bounds.own own) (t : IsWithinBounds bounds.aircraft aircraft)
    (n0 : pos 0 ≤ℤ n) (d1 : pos 1 ≤ℤ d) where
  d0 : pos 0 ≤ℤ d
  d0 = omega (arith, ints, d1)

  lifted : (x m : ℕ) → x ≤ m → pos x ≤ℤ pos m
  lifted x m h = omega (arith, ints)

  abbrev truth : Leg
  truth = true_leg leg own aircraft age k

  -- what the ownship's error has grown to, and the aircraft's
  abbrev own_flat : ℤ
  own_flat = grown_at (pos (36 * bounds.own.place)) (pos bounds.own.speed) k n d

  abbrev other_flat : ℤ
  other_flat = grown_at (pos (36 * bounds.aircraft.place)) (pos bounds.aircraft.speed) (age + k) n d

  flat : len ((place_at leg n d).east -ℤ (place_at truth n d).east) ((place_at leg n d).north -ℤ (place_at truth n d).north)
      ≤ℤ ((other_flat +ℤ own_flat) *ℤ (other_flat +ℤ own_flat))
  flat =
      let e = aircraft.place.flat in let f = aircraft.velocity.flat in let g = own.place.flat in let h = own.velocity.flat in
      let x = differs leg.place.flat.east leg.velocity.flat.east own.place.flat.east own.velocity.flat.east aircraft.place.flat.east aircraft.velocity.flat.east age k n d in
      let y = differs leg.place.flat.north leg.velocity.flat.north own.place.flat.north own.velocity.flat.north aircraft.place.flat.north aircraft.velocity.flat.north age k n d in
      subst (λ (z : ℤ). len ((place_at leg n d).east -ℤ (place_at truth n d).east) z ≤ℤ ((other_flat +ℤ own_flat) *ℤ (other_flat +ℤ own_flat))) y
      (subst (λ (z : ℤ). len z (grown_at e.north f.north (age + k) n d +ℤ neg_ℤ (grown_at g.north h.north k n d)) ≤ℤ ((other_flat +ℤ own_flat) *ℤ (other_flat +ℤ own_flat))) x
      (apart _ _ _ _ other_flat own_flat (grown0 _ _ (age + k) n d n0 d0) (grown0 _ _ k n d n0 d0)
      (one_grown e.east e.north f.east f.north _ _ (age + k) n d n0 d0 t.place t.velocity)
      (one_grown g.east g.north h.east h.north _ _ k n d n0 d0 o.place o.velocity)))

  velocity : len (leg.velocity.flat.east -ℤ truth.velocity.flat.east) (leg.velocity.flat.north -ℤ truth.velocity.flat.north)
      ≤ℤ ((pos bounds.aircraft.speed +ℤ pos bounds.own.speed) *ℤ (pos bounds.aircraft.speed +ℤ pos bounds.own.speed))
  velocity =
      let f = aircraft.velocity.flat in let h = own.velocity.flat in
      let most : ℤ = pos bounds.aircraft.speed +ℤ pos bounds.own.speed in
      subst (λ (z : ℤ). len (leg.velocity.flat.east -ℤ truth.velocity.flat.east) z ≤ℤ (most *ℤ most)) (speeds leg.velocity.flat.north own.velocity.flat.north aircraft.velocity.flat.north)
      (subst (λ (z : ℤ). len z (f.north +ℤ neg_ℤ h.north) ≤ℤ (most *ℤ most)) (speeds leg.velocity.flat.east own.velocity.flat.east aircraft.velocity.flat.east)
      (apart f.east f.north h.east h.north (pos bounds.aircraft.speed) (pos bounds.own.speed) (natural _) (natural _) t.velocity o.velocity))

  abbrev own_up : ℤ
  own_up = grown_at (pos (60 * bounds.own.height)) (pos bounds.own.climb) k n d

  abbrev other_up : ℤ
  other_up = grown_at (pos (60 * bounds.aircraft.height)) (pos bounds.aircraft.climb) (age + k) n d

  up : pos (unsigned_abs (height_at leg n d -ℤ height_at truth n d)) ≤ℤ (other_up +ℤ own_up)
  up = subst (λ (z : ℤ). pos (unsigned_abs z) ≤ℤ (other_up +ℤ own_up))
      (differs leg.place.up leg.velocity.up own.place.up own.velocity.up aircraft.place.up aircraft.velocity.up age k n d)
      (high_apart (grown_at aircraft.place.up aircraft.velocity.up (age + k) n d) (grown_at own.place.up own.velocity.up k n d) other_up own_up
      (high_grown aircraft.place.up aircraft.velocity.up _ _ (age + k) n d n0 d0 (lifted _ _ t.height) (lifted _ _ t.climb))
      (high_grown own.place.up own.velocity.up _ _ k n d n0 d0 (lifted _ _ o.height) (lifted _ _ o.climb)))

  climbs : pos (unsigned_abs (leg.velocity.up -ℤ truth.velocity.up)) ≤ℤ (pos bounds.aircraft.climb +ℤ pos bounds.own.climb)
  climbs = subst (λ (z : ℤ). pos (unsigned_abs z) ≤ℤ (pos bounds.aircraft.climb +ℤ pos bounds.own.climb)) (speeds leg.velocity.up own.velocity.up aircraft.velocity.up)
      (high_apart aircraft.velocity.up own.velocity.up (pos bounds.aircraft.climb) (pos bounds.own.climb) (lifted _ _ t.climb) (lifted _ _ o.climb))

  turned : (p s : ℕ) → pos s +ℤ pos p ≡ pos (p + s)
  turned p s = omega (arith, ints)

  pub constant_within : IsWithinErrors (errors_on bounds age k) truth leg n d
  constant_within = record {
    place = subst (λ (z : ℤ). len ((place_at leg n d).east -ℤ (place_at truth n d).east) ((place_at leg n d).north -ℤ (place_at truth n d).north) ≤ℤ (z *ℤ z))
        (together 36 bounds.own.place bounds.own.speed bounds.aircraft.place bounds.aircraft.speed age k n d) flat;
    velocity = subst (λ (z : ℤ). len (leg.velocity.flat.east -ℤ truth.velocity.flat.east) (leg.velocity.flat.north -ℤ truth.velocity.flat.north) ≤ℤ (z *ℤ z))
        (turned bounds.own.speed bounds.aircraft.speed) velocity;
    height = subst (λ (z : ℤ). pos (unsigned_abs (height_at leg n d -ℤ height_at truth n d)) ≤ℤ z)
        (together 60 bounds.own.height bounds.own.climb bounds.aircraft.height bounds.aircraft.climb age k n d) up;
    climb = subst (λ (z : ℤ). pos (unsigned_abs (leg.velocity.up -ℤ truth.velocity.up)) ≤ℤ z) (turned bounds.own.climb bounds.aircraft.climb) climbs;
  }
