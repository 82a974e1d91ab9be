-- No candidate gets to an aircraft that is out of reach.
use Rattle.std.proofs.Common.{[], ◌∷◌, ◌≡◌, ℕ, zero, suc, ◌+◌, ◌<◌, Bool, true, false, inl, inr, refl, sym, subst, arith, ℤ, pos, negsuc, neg_ℤ, ◌+ℤ◌, ◌*ℤ◌, ◌-ℤ◌, ◌≤ℤ◌, unsigned_abs}
use Rattle.std.proofs.lemmas.Int.{ints}
use Rattle.daa_fixed.proofs.Ring.{mul_nonneg, ring, #, lit, ⊝, ◌⊕◌, ◌⊖◌, ◌⊗◌}
use Rattle.daa_fixed.proofs.Integers.{by_rest, mul_le_mul}
use Rattle.daa_fixed.proofs.Axes.{begun_within, apart_within}
use Rattle.daa_fixed.specs.Size.{IsFrom}
use Rattle.daa_fixed.specs.declared.Solid.{Solid}
use Rattle.daa_fixed.specs.declared.Leg.{Leg}
use Rattle.daa_fixed.specs.Leg.{plus, sum_below}
use Rattle.daa_fixed.specs.Flat.{dot_of}
use Rattle.daa_fixed.specs.Time.{IsTime}
use Rattle.daa_taumod.specs.Volume.{ViolatesHorizontally, ViolatesVertically}
use Rattle.daa_config.specs.declared.candidate.Candidate.{Candidate}
use Rattle.daa_config.specs.declared.level.Level.{Level}
use Rattle.daa_config.specs.Candidates.{IsCandidateOf}
use Rattle.daa_config.specs.Settings.{Settings, IsAccepted, rates_of}
use Rattle.daa_state.specs.declared.word.Own.{Own}
use Rattle.daa_state.specs.declared.word.Traffic.{Traffic}
use Rattle.daa_state.specs.InRange.{IsOwnInRange}
use Rattle.daa_legs.specs.Motion.{velocity_on}
use Rattle.daa_legs.specs.OwnLeg.{place_on}
use Rattle.daa_legs.specs.Relative.{relative_for}
use Rattle.daa_legs.specs.Errors.{are_exact}
use Rattle.daa_legs.specs.Meeting.{relative_leg, Meets}
use Rattle.daa_legs.proofs.Exactness.{exact_leg}
use Rattle.daa_scan.proofs.Speeds.{top_of, rise_of, east-top, north-top, up-top, length-top}
use Rattle.daa_scan.specs.Reach.{size_of, place_now, horizontal_speed, vertical_speed, IsInReach}
use Rattle.daa_scan.proofs.Nearing.{east_near, north_near, up_near}

-- ---- a sum of numbers that are small
sum_within : (proj : Solid → ℤ) (f : ℕ → Solid) (g : ℤ) → proj (sum_below f 0) ≡ pos 0 → ((x y : Solid) → proj (plus x y) ≡ proj x +ℤ proj y)
    → ((j : ℕ) → IsFrom (neg_ℤ g) g (proj (f j))) → (k : ℕ) → IsFrom (neg_ℤ (pos k *ℤ g)) (pos k *ℤ g) (proj (sum_below f k))
sum_within proj f g z p h zero = subst (λ (x : ℤ). IsFrom (neg_ℤ (pos 0 *ℤ g)) (pos 0 *ℤ g) x) (sym z) (record { least = omega (arith, ints); most = omega (arith, ints) })
sum_within proj f g z p h (suc k) = subst (λ (x : ℤ). IsFrom (neg_ℤ (pos (suc k) *ℤ g)) (pos (suc k) *ℤ g) x) (sym (p (sum_below f k) (f k)))
    (next (proj (sum_below f k)) (proj (f k)) g k (sum_within proj f g z p h k) (h k))
  where
    next : (x y g : ℤ) (k : ℕ) → IsFrom (neg_ℤ (pos k *ℤ g)) (pos k *ℤ g) x → IsFrom (neg_ℤ g) g y → IsFrom (neg_ℤ (pos (suc k) *ℤ g)) (pos (suc k) *ℤ g) (x +ℤ y)
    next x y g k h l = record { least = omega (arith, ints, h.least, l.least); most = omega (arith, ints, h.most, l.most) }

-- ---- one axis
turn_range : (x y : ℤ) → IsFrom (neg_ℤ y) y x → neg_ℤ x ≤ℤ y
turn_range x y h = omega (arith, ints, h.least)

both_sides : (x y : ℤ) → x ≤ℤ y → neg_ℤ x ≤ℤ y → size_of x ≤ℤ y
both_sides x y h k = omega (arith, ints)

-- begun at o, moved by s; the other reported at t, moved by age + k seconds of w; n/d later at the difference of v and w
axis_within : (o t s v w g u r n d : ℤ) (age k : ℕ) → pos 1 ≤ℤ d → pos 0 ≤ℤ n → n ≤ℤ d → pos 0 ≤ℤ g → pos 0 ≤ℤ u → IsFrom (neg_ℤ (pos k *ℤ g)) (pos k *ℤ g) s
    → IsFrom (neg_ℤ g) g v → IsFrom (neg_ℤ u) u w
    → IsFrom (neg_ℤ (d *ℤ r)) (d *ℤ r) (d *ℤ ((o +ℤ s) -ℤ (t +ℤ pos (age + k) *ℤ w)) +ℤ n *ℤ (v -ℤ w)) → size_of (o -ℤ (t +ℤ pos (age + 0) *ℤ w)) ≤ℤ (r +ℤ (pos k +ℤ pos 1) *ℤ (g +ℤ u))
axis_within o t s v w g u r n d age k d1 n0 nd g0 u0 hs hv hw later =
    let O = # 0 in let T = # 1 in let S = # 2 in let V = # 3 in let W = # 4 in let K = # 5 in let N = # 6 in let D = # 7 in let A = # 8 in
    let ρ = o ∷ t ∷ s ∷ v ∷ w ∷ pos k ∷ n ∷ d ∷ pos (age + 0) ∷ [] in
    let k0 : pos 0 ≤ℤ pos k = omega (arith, ints) in
    let gu : pos 0 ≤ℤ (g +ℤ u) = omega (arith, ints) in
    let since : pos (age + k) ≡ pos (age + 0) +ℤ pos k = omega (arith, ints) in
    let then = subst (λ (z : ℤ). IsFrom (neg_ℤ (d *ℤ r)) (d *ℤ r) (d *ℤ ((o +ℤ s) -ℤ (t +ℤ z *ℤ w)) +ℤ n *ℤ (v -ℤ w))) since later in
    let S0 = D ⊗ ((O ⊕ S) ⊖ (T ⊕ (A ⊕ K) ⊗ W)) ⊕ N ⊗ (V ⊖ W) in
    let P = O ⊖ (T ⊕ A ⊗ W) in
    both_sides (o -ℤ (t +ℤ pos (age + 0) *ℤ w)) _
    (begun_within (o -ℤ (t +ℤ pos (age + 0) *ℤ w)) s v w g u (pos k) n d r d1 n0 nd k0 gu hs.least hv.least hw.most
    (subst (λ (z : ℤ). z ≤ℤ (d *ℤ r)) (ring ρ S0 (D ⊗ (P ⊕ S ⊖ K ⊗ W) ⊕ N ⊗ (V ⊖ W)) tt) then.most))
    (begun_within (neg_ℤ (o -ℤ (t +ℤ pos (age + 0) *ℤ w))) (neg_ℤ s) (neg_ℤ v) (neg_ℤ w) g u (pos k) n d r d1 n0 nd k0 gu (flip s _ hs.most) (flip v _ hv.most) (turn_range w u hw)
    (subst (λ (z : ℤ). z ≤ℤ (d *ℤ r)) (ring ρ (⊝ S0) (D ⊗ (⊝ P ⊕ ⊝ S ⊖ K ⊗ ⊝ W) ⊕ N ⊗ (⊝ V ⊖ ⊝ W)) tt) (turn_range _ _ then)))
  where
    flip : (x y : ℤ) → x ≤ℤ y → neg_ℤ y ≤ℤ neg_ℤ x
    flip x y h = omega (arith, ints)

-- k + 1 is at most the lookahead, and g + u at most the speed
room : (near soon ahead k : ℕ) (g u speed x : ℤ) → k < ahead → pos 0 ≤ℤ (g +ℤ u) → (g +ℤ u) ≤ℤ speed
    → x ≤ℤ ((pos near +ℤ pos soon *ℤ speed) +ℤ (pos k +ℤ pos 1) *ℤ (g +ℤ u)) → x ≤ℤ (pos near +ℤ pos (soon + ahead) *ℤ speed)
room near soon ahead k g u speed x h gu le e =
    let N = # 0 in let S = # 1 in let A = # 2 in let V = # 3 in
    let s0 : pos 0 ≤ℤ speed = omega (arith, ints) in
    let m : ((pos k +ℤ pos 1) *ℤ (g +ℤ u)) ≤ℤ (pos ahead *ℤ speed) = mul_le_mul (pos k +ℤ pos 1) (g +ℤ u) (pos ahead) speed (omega (arith, ints)) s0 (omega (arith, ints, h)) le gu in
    let both : pos (soon + ahead) ≡ pos soon +ℤ pos ahead = omega (arith, ints) in
    rw both (subst (λ (z : ℤ). x ≤ℤ z) (ring (pos near ∷ pos soon ∷ pos ahead ∷ speed ∷ []) ((N ⊕ S ⊗ V) ⊕ A ⊗ V) (N ⊕ (S ⊕ A) ⊗ V) tt) (chain x _ _ _ e m))
  where
    chain : (x y p q : ℤ) → x ≤ℤ (y +ℤ p) → p ≤ℤ q → x ≤ℤ (y +ℤ q)
    chain x y p q h k = omega (arith, ints)

module _ (settings : Settings) (own : Own) (candidate : Candidate) (aircraft : Traffic) (settled : IsAccepted settings) (o : IsOwnInRange own)
    (listed : IsCandidateOf settings candidate) (level : Level) (k : ℕ) (soon : k < level.lookahead) (n d : ℤ) (t : IsTime 1 n d) where
  abbrev leg : Leg
  leg = relative_leg settings own candidate aircraft k

  abbrev v : Solid
  v = velocity_on own (rates_of settings) candidate k

  abbrev s : Solid
  s = sum_below (velocity_on own (rates_of settings) candidate) k

  g0 : pos 0 ≤ℤ top_of settings own
  g0 = omega (arith, ints, (east-top settings own settled o candidate listed k).least, (east-top settings own settled o candidate listed k).most)

  rise0 : pos 0 ≤ℤ rise_of settings own
  rise0 = omega (arith, ints, (up-top settings own settled o candidate listed k).least, (up-top settings own settled o candidate listed k).most)

  nd : n ≤ℤ d
  nd = omega (arith, ints, t.upto)

  -- the relative velocity
  slow : dot_of leg.velocity.flat leg.velocity.flat ≤ℤ (horizontal_speed settings own aircraft *ℤ horizontal_speed settings own aircraft)
  unfolding relative_for
  slow = subst (λ (z : ℤ). dot_of leg.velocity.flat leg.velocity.flat ≤ℤ (z *ℤ z)) (add (top_of settings own) (size_of aircraft.vx) (size_of aircraft.vy))
      (apart_within v.flat.east v.flat.north aircraft.vx aircraft.vy (top_of settings own +ℤ pos 1) (size_of aircraft.vx +ℤ size_of aircraft.vy) (omega (arith, ints, g0)) (omega (arith, ints))
      (length-top settings own settled o candidate listed k)
      (squares aircraft.vx aircraft.vy))
    where
      add : (g x y : ℤ) → (g +ℤ pos 1) +ℤ (x +ℤ y) ≡ g +ℤ pos 1 +ℤ x +ℤ y
      add g x y = omega (arith, ints)

      square_size : (x : ℤ) → x *ℤ x ≡ size_of x *ℤ size_of x
      square_size (pos x) = refl
      square_size (negsuc x) = omega (arith, ints)

      wider : (x y : ℤ) → pos 0 ≤ℤ x → pos 0 ≤ℤ y → (x *ℤ x +ℤ y *ℤ y) ≤ℤ ((x +ℤ y) *ℤ (x +ℤ y))
      wider x y h k = let X = # 0 in let Y = # 1 in
          by_rest _ _ _ (ring (x ∷ y ∷ []) ((X ⊕ Y) ⊗ (X ⊕ Y) ⊖ (X ⊗ X ⊕ Y ⊗ Y)) (lit (pos 2) ⊗ (X ⊗ Y)) tt) (mul_nonneg (pos 2) (x *ℤ y) (omega (arith, ints)) (mul_nonneg x y h k))

      squares : (x y : ℤ) → (x *ℤ x +ℤ y *ℤ y) ≤ℤ ((size_of x +ℤ size_of y) *ℤ (size_of x +ℤ size_of y))
      squares x y = rw (square_size x, square_size y) (wider (size_of x) (size_of y) (omega (arith, ints)) (omega (arith, ints)))

  steady : pos (unsigned_abs leg.velocity.up) ≤ℤ vertical_speed settings own aircraft
  unfolding relative_for
  steady = both v.up aircraft.vs (rise_of settings own) (up-top settings own settled o candidate listed k)
    where
      both : (x y r : ℤ) → IsFrom (neg_ℤ r) r x → pos (unsigned_abs (x -ℤ y)) ≤ℤ (r +ℤ size_of y)
      both x y r h = omega (arith, ints, h.least, h.most)

  own_size : (x : ℤ) → IsFrom (neg_ℤ (size_of x)) (size_of x) x
  own_size x = record { least = omega (arith, ints); most = omega (arith, ints) }

  speed0 : pos 0 ≤ℤ horizontal_speed settings own aircraft
  speed0 = omega (arith, ints, g0)

  climb0 : pos 0 ≤ℤ vertical_speed settings own aircraft
  climb0 = omega (arith, ints, rise0)

  -- the way until the volume is entered, times d
  way : (near after speed d : ℤ) → near *ℤ d +ℤ after *ℤ d *ℤ speed ≡ d *ℤ (near +ℤ after *ℤ speed)
  way near after speed d = let N = # 0 in let A = # 1 in let S = # 2 in let D = # 3 in ring (near ∷ after ∷ speed ∷ d ∷ []) (N ⊗ D ⊕ A ⊗ D ⊗ S) (D ⊗ (N ⊕ A ⊗ S)) tt

  ranged : (x y z : ℤ) → y ≡ z → IsFrom (neg_ℤ y) y x → IsFrom (neg_ℤ z) z x
  ranged x y z e h = subst (λ (w : ℤ). IsFrom (neg_ℤ w) w x) e h

  east_reached : ViolatesHorizontally leg level.volume n d → size_of (place_now own aircraft).flat.east ≤ℤ
      (pos level.volume.dthr +ℤ pos (level.volume.tthr + level.lookahead) *ℤ horizontal_speed settings own aircraft)
  unfolding relative_for place_on
  east_reached h = room level.volume.dthr level.volume.tthr level.lookahead k (top_of settings own) (size_of aircraft.vx) _ _ soon (omega (arith, ints, g0)) (omega (arith, ints))
      (axis_within (pos 36 *ℤ own.x) (pos 36 *ℤ aircraft.x) s.flat.east v.flat.east aircraft.vx (top_of settings own) (size_of aircraft.vx)
      (pos level.volume.dthr +ℤ pos level.volume.tthr *ℤ horizontal_speed settings own aircraft) n d aircraft.age k t.fraction t.from nd g0 (omega (arith, ints))
      (sum_within (λ x. x.flat.east) (velocity_on own (rates_of settings) candidate) (top_of settings own) refl (λ x y. refl) (λ j. east-top settings own settled o candidate listed j) k)
      (east-top settings own settled o candidate listed k) (own_size aircraft.vx)
      (ranged _ _ _ (way (pos level.volume.dthr) (pos level.volume.tthr) (horizontal_speed settings own aircraft) d)
      (east_near leg level.volume n d (horizontal_speed settings own aircraft) t.fraction speed0 slow h)))

  north_reached : ViolatesHorizontally leg level.volume n d → size_of (place_now own aircraft).flat.north ≤ℤ
      (pos level.volume.dthr +ℤ pos (level.volume.tthr + level.lookahead) *ℤ horizontal_speed settings own aircraft)
  unfolding relative_for place_on
  north_reached h = room level.volume.dthr level.volume.tthr level.lookahead k (top_of settings own) (size_of aircraft.vy) _ _ soon (omega (arith, ints, g0)) (omega (arith, ints))
      (axis_within (pos 36 *ℤ own.y) (pos 36 *ℤ aircraft.y) s.flat.north v.flat.north aircraft.vy (top_of settings own) (size_of aircraft.vy)
      (pos level.volume.dthr +ℤ pos level.volume.tthr *ℤ horizontal_speed settings own aircraft) n d aircraft.age k t.fraction t.from nd g0 (omega (arith, ints))
      (sum_within (λ x. x.flat.north) (velocity_on own (rates_of settings) candidate) (top_of settings own) refl (λ x y. refl) (λ j. north-top settings own settled o candidate listed j) k)
      (north-top settings own settled o candidate listed k) (own_size aircraft.vy)
      (ranged _ _ _ (way (pos level.volume.dthr) (pos level.volume.tthr) (horizontal_speed settings own aircraft) d)
      (north_near leg level.volume n d (horizontal_speed settings own aircraft) t.fraction speed0 slow h)))

  up_reached : ViolatesVertically leg level.volume n d → size_of (place_now own aircraft).up ≤ℤ
      (pos level.volume.zthr +ℤ pos (level.volume.tcoa + level.lookahead) *ℤ vertical_speed settings own aircraft)
  unfolding relative_for place_on
  up_reached h = room level.volume.zthr level.volume.tcoa level.lookahead k (rise_of settings own) (size_of aircraft.vs) _ _ soon (omega (arith, ints, rise0)) (omega (arith, ints))
      (axis_within (pos 60 *ℤ own.alt) (pos 60 *ℤ aircraft.alt) s.up v.up aircraft.vs (rise_of settings own) (size_of aircraft.vs)
      (pos level.volume.zthr +ℤ pos level.volume.tcoa *ℤ vertical_speed settings own aircraft) n d aircraft.age k t.fraction t.from nd rise0 (omega (arith, ints))
      (sum_within (λ x. x.up) (velocity_on own (rates_of settings) candidate) (rise_of settings own) refl (λ x y. refl) (λ j. up-top settings own settled o candidate listed j) k)
      (up-top settings own settled o candidate listed k) (own_size aircraft.vs)
      (ranged _ _ _ (way (pos level.volume.zthr) (pos level.volume.tcoa) (vertical_speed settings own aircraft) d)
      (up_near leg level.volume n d (vertical_speed settings own aircraft) t.fraction climb0 steady h)))

-- what a listed candidate meets is in reach
pub met_in_reach : (settings : Settings) (own : Own) (candidate : Candidate) (aircraft : Traffic) → IsAccepted settings → IsOwnInRange own
    → IsCandidateOf settings candidate → (l : ℕ) → Meets settings own candidate aircraft l → IsInReach settings own aircraft
met_in_reach settings own candidate aircraft settled o listed l m = go (are_exact aircraft.bounds) refl
  where
    go : (exact : Bool) → are_exact aircraft.bounds ≡ exact → IsInReach settings own aircraft
    go false e = inl e
    go true e =
        let h = m.meets in
        let v = (exact_leg settings own candidate aircraft m.level.volume e h.leg).0 h.violates in
        inr (record {
          number = l;
          level = m.level;
          there = m.there;
          enters = record {
            east = east_reached settings own candidate aircraft settled o listed m.level h.leg h.before v.num v.den v.time v.holds.horizontal;
            north = north_reached settings own candidate aircraft settled o listed m.level h.leg h.before v.num v.den v.time v.holds.horizontal;
            up = up_reached settings own candidate aircraft settled o listed m.level h.leg h.before v.num v.den v.time v.holds.vertical;
          };
        })
