-- A candidate's flight and the one that leads on its side.
use Rattle.std.proofs.Common.{◌≡◌, ℕ, ◌+◌, ◌*◌, ◌/◌, ◌<◌, ◌≤◌, refl, sym, subst, ◌∙◌, ◌-◌, ◌⊎◌, inl, inr, ⊎_elim, arith, Bool, true, false, ℤ, pos, negsuc, ◌+ℤ◌, ◌-ℤ◌, ◌*ℤ◌, ◌≤ℤ◌}
use Rattle.std.proofs.lemmas.Bool.{cases_lt}
use Rattle.std.proofs.lemmas.Int.{ints, int_max_is, int_min_is}
use Rattle.std.proofs.lemmas.Nat.{mul-le}
use Rattle.std.proofs.Math.Nat.{le-div_iff_mul-le}
use Rattle.std.specs.Prelude.{IsTrue, nat_abs}
use Rattle.std.specs.Int.{int_min}
use Rattle.daa_fixed.specs.Size.{IsFrom}
use Rattle.daa_fixed.specs.Toward.{toward_of}
use Rattle.daa_heading.specs.Heading.{velocity_of}
use Rattle.daa_config.specs.declared.config.Rates.{Rates}
use Rattle.daa_config.specs.declared.candidate.Candidate.TheVariants.{Hold, Track, GroundSpeed, VerticalSpeed, Altitude}
use Rattle.daa_state.specs.declared.word.Own.{Own}
use Rattle.daa_legs.specs.Turn.{turned}
use Rattle.daa_legs.specs.Motion.{track_on, ground_speed_on, vertical_speed_on, height_after, velocity_on}
use Rattle.daa_legs.specs.Branch.{lead_of, velocity_there, FliesAs, FliesOn}
use Rattle.daa_legs.specs.Inside.Branch.{IsWholeLegs}
use Rattle.daa_legs.proofs.CandidateCases.{product_nonneg}

-- ---- of numbers
pub toward_as : (x y z r : ℤ) → pos 0 ≤ℤ r → x ≤ℤ y → y ≤ℤ z → r ≤ℤ (y -ℤ x) → toward_of x y r ≡ toward_of x z r
toward_as x y z r r0 h k l =
    let a = int_max_is (x -ℤ r) (int_min (x +ℤ r) y) in
    let b = int_min_is (x +ℤ r) y in
    let c = int_max_is (x -ℤ r) (int_min (x +ℤ r) z) in
    let d = int_min_is (x +ℤ r) z in
    omega (arith, ints)

pub toward_as_down : (x y z r : ℤ) → pos 0 ≤ℤ r → y ≤ℤ x → z ≤ℤ y → r ≤ℤ (x -ℤ y) → toward_of x y r ≡ toward_of x z r
toward_as_down x y z r r0 h k l =
    let a = int_max_is (x -ℤ r) (int_min (x +ℤ r) y) in
    let b = int_min_is (x +ℤ r) y in
    let c = int_max_is (x -ℤ r) (int_min (x +ℤ r) z) in
    let d = int_min_is (x +ℤ r) z in
    omega (arith, ints)

pub toward_there : (x y r : ℤ) → (x -ℤ r) ≤ℤ y → y ≤ℤ (x +ℤ r) → toward_of x y r ≡ y
toward_there x y r h k =
    let a = int_max_is (x -ℤ r) (int_min (x +ℤ r) y) in
    let b = int_min_is (x +ℤ r) y in
    omega (arith, ints)

pub toward_short : (x y r : ℤ) → pos 0 ≤ℤ r → r ≤ℤ (y -ℤ x) → toward_of x y r ≡ x +ℤ r
toward_short x y r h k =
    let a = int_max_is (x -ℤ r) (int_min (x +ℤ r) y) in
    let b = int_min_is (x +ℤ r) y in
    omega (arith, ints)

pub toward_short_down : (x y r : ℤ) → pos 0 ≤ℤ r → r ≤ℤ (x -ℤ y) → toward_of x y r ≡ x -ℤ r
toward_short_down x y r h k =
    let a = int_max_is (x -ℤ r) (int_min (x +ℤ r) y) in
    let b = int_min_is (x +ℤ r) y in
    omega (arith, ints)

-- so many whole seconds at a rate
pub whole : (way rate n : ℕ) → 1 ≤ rate → n ≡ way / rate → IsWholeLegs (pos way) (pos rate) n
whole way rate n r1 e = record {
  before = λ k h. below (k + 1) (omega (arith, h, e));
  after = λ k h. above k (omega (arith, h, e));
}
  where
    below : (k : ℕ) → k ≤ way / rate → (pos k *ℤ pos rate) ≤ℤ pos way
    below k h = let l = (le-div_iff_mul-le {k = rate} {x = k} {y = way} (omega (arith, r1))).0 h in omega (arith, ints, l)

    above : (k : ℕ) → way / rate < k → pos way ≤ℤ (pos k *ℤ pos rate)
    above k h = grind (arith, ints, le-div_iff_mul-le {k = rate} {x = k} {y = way} (omega (arith, r1)))

pub whole_z : (way rate : ℤ) (n : ℕ) → pos 0 ≤ℤ way → pos 1 ≤ℤ rate → n ≡ nat_abs way / nat_abs rate → IsWholeLegs way rate n
whole_z (pos way) (pos rate) n h k e = whole way rate n (omega (arith, ints, k)) e
whole_z (negsuc way) rate n h k e = absurd (omega (arith, ints, h))
whole_z (pos way) (negsuc rate) n h k e = absurd (omega (arith, ints, k))

-- the same by what is flown and what is left
pub whole_near : (way rate n : ℕ) → n * rate ≤ way → way ≤ n * rate + rate → IsWholeLegs (pos way) (pos rate) n
whole_near way rate n low high = record {
  before = λ k h. let m = mul-le (k + 1) rate n rate (omega (arith, h)) (omega arith) in omega (arith, ints, m, low);
  after = λ k h. let m = mul-le (n + 1) rate k rate (omega (arith, h)) (omega arith) in let e : (n + 1) * rate ≡ n * rate + rate = omega arith in omega (arith, ints, m, e, high);
}

pub whole_near_z : (way rate : ℤ) (n : ℕ) → pos 0 ≤ℤ way → pos 1 ≤ℤ rate → n * nat_abs rate ≤ nat_abs way → nat_abs way ≤ n * nat_abs rate + nat_abs rate → IsWholeLegs way rate n
whole_near_z (pos way) (pos rate) n h k low high = whole_near way rate n low high
whole_near_z (negsuc way) rate n h k low high = absurd (omega (arith, ints, h))
whole_near_z (pos way) (negsuc rate) n h k low high = absurd (omega (arith, ints, k))

-- ---- of flights
module _ (own : Own) (rates : Rates) where
  module _ (rate : ℤ) (r0 : pos 0 ≤ℤ rate) (way : ℤ) (n : ℕ) (legs : IsWholeLegs way rate n) where
    -- no more than the way, up to the last whole second
    pub within : pos 0 ≤ℤ way → (k : ℕ) → k ≤ n → (pos k *ℤ rate) ≤ℤ way
    within w k h = ⊎_elim
        (λ l. subst (λ (j : ℕ). (pos j *ℤ rate) ≤ℤ way) (none k l) (nothing rate w))
        (λ g. subst (λ (j : ℕ). (pos j *ℤ rate) ≤ℤ way) (back k g) (legs.before (k - 1) (omega (arith, h, g))))
        (cases_lt k 1)
      where
        none : (k : ℕ) → k < 1 → 0 ≡ k
        none k l = omega (arith, l)

        nothing : (r : ℤ) → pos 0 ≤ℤ way → (pos 0 *ℤ r) ≤ℤ way
        nothing r w = omega (arith, ints, w)

        back : (k : ℕ) → 1 ≤ k → k - 1 + 1 ≡ k
        back k g = omega (arith, g)

  speed_same : (c d : ℤ) (k : ℕ) → toward_of own.gs c (pos k *ℤ rates.gs) ≡ toward_of own.gs d (pos k *ℤ rates.gs) → velocity_on own rates (GroundSpeed c) k ≡ velocity_on own rates (GroundSpeed d) k
  unfolding velocity_on ground_speed_on track_on vertical_speed_on
  speed_same c d k e = λ i. record { flat = velocity_of (e i) own.trk; up = own.vs }

  speed_settled : (c : ℤ) (k : ℕ) → toward_of own.gs c (pos k *ℤ rates.gs) ≡ c → velocity_on own rates (GroundSpeed c) k ≡ velocity_there own (GroundSpeed c)
  unfolding velocity_on ground_speed_on track_on vertical_speed_on velocity_there
  speed_settled c k e = λ i. record { flat = velocity_of (e i) own.trk; up = own.vs }

  climb_same : (c d : ℤ) (k : ℕ) → toward_of own.vs c (pos k *ℤ rates.vs) ≡ toward_of own.vs d (pos k *ℤ rates.vs)
      → velocity_on own rates (VerticalSpeed c) k ≡ velocity_on own rates (VerticalSpeed d) k
  unfolding velocity_on ground_speed_on track_on vertical_speed_on
  climb_same c d k e = λ i. record { flat = velocity_of own.gs own.trk; up = e i }

  climb_settled : (c : ℤ) (k : ℕ) → toward_of own.vs c (pos k *ℤ rates.vs) ≡ c → velocity_on own rates (VerticalSpeed c) k ≡ velocity_there own (VerticalSpeed c)
  unfolding velocity_on ground_speed_on track_on vertical_speed_on velocity_there
  climb_settled c k e = λ i. record { flat = velocity_of own.gs own.trk; up = e i }

  height_same : (c d : ℤ) (k : ℕ) → height_after own rates c k ≡ height_after own rates d k → height_after own rates c (k + 1) ≡ height_after own rates d (k + 1)
      → velocity_on own rates (Altitude c) k ≡ velocity_on own rates (Altitude d) k
  unfolding velocity_on ground_speed_on track_on vertical_speed_on
  height_same c d k e f = λ i. record { flat = velocity_of own.gs own.trk; up = f i -ℤ e i }

  height_settled : (c : ℤ) (k : ℕ) → height_after own rates c k ≡ pos 60 *ℤ c → height_after own rates c (k + 1) ≡ pos 60 *ℤ c → velocity_on own rates (Altitude c) k ≡ velocity_there own (Altitude c)
  unfolding velocity_on ground_speed_on track_on vertical_speed_on velocity_there
  height_settled c k e f = λ i. record { flat = velocity_of own.gs own.trk; up = ((λ j. f j -ℤ e j) ∙ none (pos 60 *ℤ c)) i }
    where
      none : (z : ℤ) → z -ℤ z ≡ pos 0
      none z = omega (arith, ints)

  pub track_settled : (c : ℤ) (k : ℕ) → turned own.trk c (pos k *ℤ rates.turn) ≡ c → velocity_on own rates (Track c) k ≡ velocity_there own (Track c)
  unfolding velocity_on ground_speed_on track_on vertical_speed_on velocity_there
  track_settled c k e = λ i. record { flat = velocity_of own.gs (e i); up = own.vs }

  pub track_same : (c d : ℤ) (k l : ℕ) → turned own.trk c (pos k *ℤ rates.turn) ≡ turned own.trk d (pos l *ℤ rates.turn) → velocity_on own rates (Track c) k ≡ velocity_on own rates (Track d) l
  unfolding velocity_on ground_speed_on track_on vertical_speed_on
  track_same c d k l e = λ i. record { flat = velocity_of own.gs (e i); up = own.vs }

  -- a speed that rises, and one that falls
  pub speed_up : (g : ℤ) (n : ℕ) → pos 0 ≤ℤ rates.gs → own.gs ≤ℤ g → g ≤ℤ pos 10000 → IsWholeLegs (g -ℤ own.gs) rates.gs n → FliesAs own rates (GroundSpeed g) (GroundSpeed (pos 10000)) (n + 1)
  speed_up g n r0 h k legs = record {
    same = λ j b. speed_same g (pos 10000) j (toward_as own.gs g (pos 10000) (pos j *ℤ rates.gs) (product_nonneg j rates.gs r0) h k (within
        rates.gs r0 (g -ℤ own.gs) n legs (omega (arith, ints, h)) j (omega (arith, b))));
  }

  pub speed_down : (g : ℤ) (n : ℕ) → pos 0 ≤ℤ rates.gs → g ≤ℤ own.gs → pos 0 ≤ℤ g → IsWholeLegs (own.gs -ℤ g) rates.gs n → FliesAs own rates (GroundSpeed g) (GroundSpeed (pos 0)) (n + 1)
  speed_down g n r0 h k legs = record {
    same = λ j b. speed_same g (pos 0) j (toward_as_down own.gs g (pos 0) (pos j *ℤ rates.gs) (product_nonneg j rates.gs r0) h k (within
        rates.gs r0 (own.gs -ℤ g) n legs (omega (arith, ints, h)) j (omega (arith, b))));
  }

  arrived_up : (x y rate : ℤ) (n k : ℕ) → pos 0 ≤ℤ rate → x ≤ℤ y → IsWholeLegs (y -ℤ x) rate n → n < k → toward_of x y (pos k *ℤ rate) ≡ y
  arrived_up x y rate n k r0 h legs b = let a = legs.after k b in toward_there x y (pos k *ℤ rate) (omega (arith, ints, product_nonneg k rate r0, h)) (omega (arith, ints, a))

  arrived_down : (x y rate : ℤ) (n k : ℕ) → pos 0 ≤ℤ rate → y ≤ℤ x → IsWholeLegs (x -ℤ y) rate n → n < k → toward_of x y (pos k *ℤ rate) ≡ y
  arrived_down x y rate n k r0 h legs b = let a = legs.after k b in toward_there x y (pos k *ℤ rate) (omega (arith, ints, a)) (omega (arith, ints, product_nonneg k rate r0, h))

  pub speed_arrives_up : (g : ℤ) (n : ℕ) → pos 0 ≤ℤ rates.gs → own.gs ≤ℤ g → IsWholeLegs (g -ℤ own.gs) rates.gs n → FliesOn own rates (GroundSpeed g) (n + 1)
  speed_arrives_up g n r0 h legs = record { there = λ k b. speed_settled g k (arrived_up own.gs g rates.gs n k r0 h legs (omega (arith, b))) }

  pub speed_arrives_down : (g : ℤ) (n : ℕ) → pos 0 ≤ℤ rates.gs → g ≤ℤ own.gs → IsWholeLegs (own.gs -ℤ g) rates.gs n → FliesOn own rates (GroundSpeed g) (n + 1)
  speed_arrives_down g n r0 h legs = record { there = λ k b. speed_settled g k (arrived_down own.gs g rates.gs n k r0 h legs (omega (arith, b))) }

  pub climb_up : (w : ℤ) (n : ℕ) → pos 0 ≤ℤ rates.vs → own.vs ≤ℤ w → w ≤ℤ pos 10000 → IsWholeLegs (w -ℤ own.vs) rates.vs n → FliesAs own rates (VerticalSpeed w) (VerticalSpeed (pos 10000)) (n + 1)
  climb_up w n r0 h k legs = record {
    same = λ j b. climb_same w (pos 10000) j (toward_as own.vs w (pos 10000) (pos j *ℤ rates.vs) (product_nonneg j rates.vs r0) h k (within
        rates.vs r0 (w -ℤ own.vs) n legs (omega (arith, ints, h)) j (omega (arith, b))));
  }

  pub height_up : (a : ℤ) (n : ℕ) → pos 0 ≤ℤ rates.alt → (pos 60 *ℤ own.alt) ≤ℤ (pos 60 *ℤ a) → a ≤ℤ pos 60000 → IsWholeLegs (pos 60 *ℤ a -ℤ pos 60 *ℤ own.alt) rates.alt n
      → FliesAs own rates (Altitude a) (Altitude (pos 60000)) n
  height_up a n r0 h k legs = record {
    same = λ j b. height_same a (pos 60000) j
        (toward_as (pos 60 *ℤ own.alt) (pos 60 *ℤ a) (pos 60 *ℤ pos 60000) (pos j *ℤ rates.alt) (product_nonneg j rates.alt r0) h (omega (arith, ints, k)) (within rates.alt r0
        (pos 60 *ℤ a -ℤ pos 60 *ℤ own.alt) n legs (omega (arith, ints, h)) j (omega (arith, b))))
        (toward_as (pos 60 *ℤ own.alt) (pos 60 *ℤ a) (pos 60 *ℤ pos 60000) (pos (j + 1) *ℤ rates.alt) (product_nonneg (j + 1) rates.alt r0) h (omega (arith, ints, k)) (legs.before j b));
  }

  pub height_arrives_up : (a : ℤ) (n : ℕ) → pos 0 ≤ℤ rates.alt → (pos 60 *ℤ own.alt) ≤ℤ (pos 60 *ℤ a) → IsWholeLegs (pos 60 *ℤ a -ℤ pos 60 *ℤ own.alt) rates.alt n
      → FliesOn own rates (Altitude a) (n + 1)
  height_arrives_up a n r0 h legs =
      let there : (k : ℕ) → n < k → height_after own rates a k ≡ pos 60 *ℤ a = λ k b. arrived_up (pos 60 *ℤ own.alt) (pos 60 *ℤ a) rates.alt n k r0 h legs b in
      record { there = λ k b. height_settled a k (there k (omega (arith, b))) (there (k + 1) (omega (arith, b))) }

  pub climb_down : (w : ℤ) (n : ℕ) → pos 0 ≤ℤ rates.vs → w ≤ℤ own.vs → negsuc 9999 ≤ℤ w → IsWholeLegs (own.vs -ℤ w) rates.vs n
      → FliesAs own rates (VerticalSpeed w) (VerticalSpeed (negsuc 9999)) (n + 1)
  climb_down w n r0 h k legs = record {
    same = λ j b. climb_same w (negsuc 9999) j (toward_as_down own.vs w (negsuc 9999) (pos j *ℤ rates.vs) (product_nonneg j rates.vs r0) h k
        (within rates.vs r0 (own.vs -ℤ w) n legs (omega (arith, ints, h)) j (omega (arith, b))));
  }

  pub climb_arrives_up : (w : ℤ) (n : ℕ) → pos 0 ≤ℤ rates.vs → own.vs ≤ℤ w → IsWholeLegs (w -ℤ own.vs) rates.vs n → FliesOn own rates (VerticalSpeed w) (n + 1)
  climb_arrives_up w n r0 h legs = record { there = λ k b. climb_settled w k (arrived_up own.vs w rates.vs n k r0 h legs (omega (arith, b))) }

  pub climb_arrives_down : (w : ℤ) (n : ℕ) → pos 0 ≤ℤ rates.vs → w ≤ℤ own.vs → IsWholeLegs (own.vs -ℤ w) rates.vs n → FliesOn own rates (VerticalSpeed w) (n + 1)
  climb_arrives_down w n r0 h legs = record { there = λ k b. climb_settled w k (arrived_down own.vs w rates.vs n k r0 h legs (omega (arith, b))) }

  pub height_down : (a : ℤ) (n : ℕ) → pos 0 ≤ℤ rates.alt → (pos 60 *ℤ a) ≤ℤ (pos 60 *ℤ own.alt) → negsuc 1999 ≤ℤ a → IsWholeLegs (pos 60 *ℤ own.alt -ℤ pos 60 *ℤ a) rates.alt n
      → FliesAs own rates (Altitude a) (Altitude (negsuc 1999)) n
  height_down a n r0 h k legs = record {
    same = λ j b. height_same a (negsuc 1999) j
        (toward_as_down (pos 60 *ℤ own.alt) (pos 60 *ℤ a) (pos 60 *ℤ negsuc 1999) (pos j *ℤ rates.alt) (product_nonneg j rates.alt r0) h (omega (arith, ints, k)) (within rates.alt
        r0 (pos 60 *ℤ own.alt -ℤ pos 60 *ℤ a) n legs (omega (arith, ints, h)) j (omega (arith, b))))
        (toward_as_down (pos 60 *ℤ own.alt) (pos 60 *ℤ a) (pos 60 *ℤ negsuc 1999) (pos (j + 1) *ℤ rates.alt) (product_nonneg (j + 1) rates.alt r0) h (omega (arith, ints, k)) (legs.before j b));
  }

  pub height_arrives_down : (a : ℤ) (n : ℕ) → pos 0 ≤ℤ rates.alt → (pos 60 *ℤ a) ≤ℤ (pos 60 *ℤ own.alt) → IsWholeLegs (pos 60 *ℤ own.alt -ℤ pos 60 *ℤ a) rates.alt n
      → FliesOn own rates (Altitude a) (n + 1)
  height_arrives_down a n r0 h legs =
      let there : (k : ℕ) → n < k → height_after own rates a k ≡ pos 60 *ℤ a = λ k b. arrived_down (pos 60 *ℤ own.alt) (pos 60 *ℤ a) rates.alt n k r0 h legs b in
      record { there = λ k b. height_settled a k (there k (omega (arith, b))) (there (k + 1) (omega (arith, b))) }

  -- the second after the whole ones rises what is left of the way
  height_rises : (a : ℤ) (n : ℕ) (before : ℤ) → height_after own rates a n ≡ before → height_after own rates a (n + 1) ≡ pos 60 *ℤ a
      → vertical_speed_on own rates (Altitude a) n ≡ pos 60 *ℤ a -ℤ before
  unfolding vertical_speed_on
  height_rises a n before e f = λ i. f i -ℤ e i

  rest_up : (a : ℤ) (n : ℕ) → pos 0 ≤ℤ rates.alt → (pos 60 *ℤ own.alt) ≤ℤ (pos 60 *ℤ a) → IsWholeLegs (pos 60 *ℤ a -ℤ pos 60 *ℤ own.alt) rates.alt n
      → vertical_speed_on own rates (Altitude a) n ≡ (pos 60 *ℤ a -ℤ pos 60 *ℤ own.alt) -ℤ pos n *ℤ rates.alt
  rest_up a n r0 h legs =
      let w = within rates.alt r0 (pos 60 *ℤ a -ℤ pos 60 *ℤ own.alt) n legs (omega (arith, ints, h)) n (omega arith) in
      let e = height_rises a n _ (toward_short (pos 60 *ℤ own.alt) (pos 60 *ℤ a) (pos n *ℤ rates.alt) (product_nonneg n rates.alt r0) w) (arrived_up (pos 60 *ℤ own.alt) (pos 60 *ℤ
      a) rates.alt n (n + 1) r0 h legs (omega arith)) in
      e ∙ parts (pos 60 *ℤ own.alt) (pos 60 *ℤ a) (pos n *ℤ rates.alt)
    where
      parts : (x y r : ℤ) → y -ℤ (x +ℤ r) ≡ (y -ℤ x) -ℤ r
      parts x y r = omega (arith, ints)

  rest_down : (a : ℤ) (n : ℕ) → pos 0 ≤ℤ rates.alt → (pos 60 *ℤ a) ≤ℤ (pos 60 *ℤ own.alt) → IsWholeLegs (pos 60 *ℤ own.alt -ℤ pos 60 *ℤ a) rates.alt n
      → vertical_speed_on own rates (Altitude a) n ≡ (pos 60 *ℤ a -ℤ pos 60 *ℤ own.alt) +ℤ pos n *ℤ rates.alt
  rest_down a n r0 h legs =
      let w = within rates.alt r0 (pos 60 *ℤ own.alt -ℤ pos 60 *ℤ a) n legs (omega (arith, ints, h)) n (omega arith) in
      let e = height_rises a n _ (toward_short_down (pos 60 *ℤ own.alt) (pos 60 *ℤ a) (pos n *ℤ rates.alt) (product_nonneg n rates.alt r0) w) (arrived_down (pos 60 *ℤ own.alt)
      (pos 60 *ℤ a) rates.alt n (n + 1) r0 h legs (omega arith)) in
      e ∙ parts (pos 60 *ℤ own.alt) (pos 60 *ℤ a) (pos n *ℤ rates.alt)
    where
      parts : (x y r : ℤ) → y -ℤ (x -ℤ r) ≡ (y -ℤ x) +ℤ r
      parts x y r = omega (arith, ints)

  -- both sides together
  pub speed_branch : (g : ℤ) (upper : Bool) (n : ℕ) → pos 0 ≤ℤ rates.gs → IsFrom (pos 0) (pos 10000) g
      → (IsTrue upper → own.gs ≤ℤ g) → (upper ≡ false → g ≤ℤ own.gs) → (IsTrue upper → IsWholeLegs (g -ℤ own.gs) rates.gs n) → (upper ≡ false → IsWholeLegs (own.gs -ℤ g) rates.gs n)
      → FliesAs own rates (GroundSpeed g) (lead_of own (GroundSpeed g) upper) (n + 1) × FliesOn own rates (GroundSpeed g) (n + 1)
  unfolding lead_of
  speed_branch g true n r0 f up down ul dl = (speed_up g n r0 (up refl) f.most (ul refl), speed_arrives_up g n r0 (up refl) (ul refl))
  speed_branch g false n r0 f up down ul dl = (speed_down g n r0 (down refl) f.least (dl refl), speed_arrives_down g n r0 (down refl) (dl refl))

  pub climb_branch : (w : ℤ) (upper : Bool) (n : ℕ) → pos 0 ≤ℤ rates.vs → IsFrom (negsuc 9999) (pos 10000) w
      → (IsTrue upper → own.vs ≤ℤ w) → (upper ≡ false → w ≤ℤ own.vs) → (IsTrue upper → IsWholeLegs (w -ℤ own.vs) rates.vs n) → (upper ≡ false → IsWholeLegs (own.vs -ℤ w) rates.vs n)
      → FliesAs own rates (VerticalSpeed w) (lead_of own (VerticalSpeed w) upper) (n + 1) × FliesOn own rates (VerticalSpeed w) (n + 1)
  unfolding lead_of
  climb_branch w true n r0 f up down ul dl = (climb_up w n r0 (up refl) f.most (ul refl), climb_arrives_up w n r0 (up refl) (ul refl))
  climb_branch w false n r0 f up down ul dl = (climb_down w n r0 (down refl) f.least (dl refl), climb_arrives_down w n r0 (down refl) (dl refl))

  pub height_branch : (a : ℤ) (upper : Bool) (n : ℕ) → pos 0 ≤ℤ rates.alt → IsFrom (negsuc 1999) (pos 60000) a
      → (IsTrue upper → (pos 60 *ℤ own.alt) ≤ℤ (pos 60 *ℤ a)) → (upper ≡ false → (pos 60 *ℤ a) ≤ℤ (pos 60 *ℤ own.alt)) → (IsTrue upper
      → IsWholeLegs (pos 60 *ℤ a -ℤ pos 60 *ℤ own.alt) rates.alt n) → (upper ≡ false → IsWholeLegs (pos 60 *ℤ own.alt -ℤ pos 60 *ℤ a) rates.alt n)
      → FliesAs own rates (Altitude a) (lead_of own (Altitude a) upper) n × FliesOn own rates (Altitude a) (n + 1)
  unfolding lead_of
  height_branch a true n r0 f up down ul dl = (height_up a n r0 (up refl) f.most (ul refl), height_arrives_up a n r0 (up refl) (ul refl))
  height_branch a false n r0 f up down ul dl = (height_down a n r0 (down refl) f.least (dl refl), height_arrives_down a n r0 (down refl) (dl refl))

  pub height_rest : (a : ℤ) (upper : Bool) (n : ℕ) (rise : ℤ) → pos 0 ≤ℤ rates.alt
      → (IsTrue upper → (pos 60 *ℤ own.alt) ≤ℤ (pos 60 *ℤ a)) → (upper ≡ false → (pos 60 *ℤ a) ≤ℤ (pos 60 *ℤ own.alt)) → (IsTrue upper
      → IsWholeLegs (pos 60 *ℤ a -ℤ pos 60 *ℤ own.alt) rates.alt n) → (upper ≡ false → IsWholeLegs (pos 60 *ℤ own.alt -ℤ pos 60 *ℤ a) rates.alt n)
      → (IsTrue upper → rise ≡ (pos 60 *ℤ a -ℤ pos 60 *ℤ own.alt) -ℤ pos n *ℤ rates.alt) → (upper ≡ false → rise ≡ (pos 60 *ℤ a -ℤ pos 60 *ℤ own.alt) +ℤ pos n *ℤ rates.alt)
      → rise ≡ vertical_speed_on own rates (Altitude a) n
  height_rest a true n rise r0 up down ul dl ur dr = ur refl ∙ sym (rest_up a n r0 (up refl) (ul refl))
  height_rest a false n rise r0 up down ul dl ur dr = dr refl ∙ sym (rest_down a n r0 (down refl) (dl refl))

  -- where nothing is left, it flies straight on at once
  level_there : (a : ℤ) (n : ℕ) → vertical_speed_on own rates (Altitude a) n ≡ pos 0 → velocity_on own rates (Altitude a) n ≡ velocity_there own (Altitude a)
  unfolding velocity_on ground_speed_on track_on velocity_there
  level_there a n e = λ i. record { flat = velocity_of own.gs own.trk; up = e i }

  pub straight_at_once : (a : ℤ) (n : ℕ) → vertical_speed_on own rates (Altitude a) n ≡ pos 0 → FliesOn own rates (Altitude a) (n + 1) → FliesOn own rates (Altitude a) n
  straight_at_once a n e on = record {
    there = λ k b. ⊎_elim
        (λ same. subst (λ (j : ℕ). velocity_on own rates (Altitude a) j ≡ velocity_there own (Altitude a)) same (level_there a n e))
        (λ later. on.there k later)
        (first n k b);
  }
    where
      first : (n k : ℕ) → n ≤ k → (n ≡ k) ⊎ (n + 1 ≤ k)
      first n k b = ⊎_elim (λ l. inr (omega (arith, l))) (λ g. inl (omega (arith, b, g))) (cases_lt n k)

  pub hold_on : FliesOn own rates Hold 0
  unfolding velocity_on ground_speed_on track_on vertical_speed_on velocity_there
  hold_on = record { there = λ k h. refl }
