-- A value on the way to a candidate's: so many seconds at the rate are so many steps.
use Rattle.std.proofs.Common.{[], ◌∷◌, ◌≡◌, ℕ, ◌+◌, ◌<◌, ◌≤◌, refl, ap, sym, subst, ◌∙◌, arith, Bool, true, false, ℤ, pos, neg_ℤ, ◌+ℤ◌, ◌-ℤ◌, ◌*ℤ◌, ◌≤ℤ◌}
use Rattle.std.proofs.lemmas.Int.{ints, int_min_is}
use Rattle.std.specs.Prelude.{IsTrue}
use Rattle.std.specs.Int.{int_min, int_rem_euclid}
use Rattle.daa_fixed.specs.declared.Solid.{Solid}
use Rattle.daa_fixed.specs.Size.{IsFrom}
use Rattle.daa_fixed.specs.Toward.{toward_of}
use Rattle.daa_fixed.proofs.Ring.{ring, #, ◌⊕◌, ◌⊖◌, ◌⊗◌, ⊝}
use Rattle.daa_fixed.proofs.Towards.{toward_of-between}
use Rattle.daa_heading.specs.Heading.{velocity_of}
use Rattle.daa_config.specs.declared.config.Rates.{Rates}
use Rattle.daa_config.specs.declared.candidate.Candidate.{Candidate}
use Rattle.daa_config.specs.declared.candidate.Candidate.TheVariants.{Track, GroundSpeed, VerticalSpeed, Altitude}
use Rattle.daa_config.specs.Settings.{AreRatesInRange}
use Rattle.daa_state.specs.declared.word.Own.{Own}
use Rattle.daa_state.specs.InRange.{IsOwnInRange}
use Rattle.daa_legs.specs.declared.branch.Parting.{Parting}
use Rattle.daa_legs.specs.Turn.{right_angle, turned}
use Rattle.daa_legs.specs.Motion.{track_on, ground_speed_on, vertical_speed_on, height_after, velocity_on}
use Rattle.daa_legs.specs.Inside.Branch.{IsWholeLegs}
use Rattle.daa_legs.specs.Inside.OnWay.{step_of, IsOnWay}
use Rattle.daa_legs.proofs.StateRanges.{own_speed}
use Rattle.daa_legs.proofs.CandidateCases.{next_product, product_nonneg}
use Rattle.daa_legs.proofs.LeadingFlights.{within, toward_short, toward_short_down}
use Rattle.daa_legs.proofs.Turns.{turned_right, turned_left}
use Rattle.daa_heading.proofs.Quarters.{le_true, le_false}
use Rattle.daa_legs.proofs.Turning.{angle_least, angle_most}

back : (x : ℤ) (k : ℕ) (r : ℤ) → x -ℤ pos k *ℤ r ≡ x +ℤ pos k *ℤ neg_ℤ r
back x k r = let X = # 0 in let K = # 1 in let R = # 2 in ring (x ∷ pos k ∷ r ∷ []) (X ⊖ (K ⊗ R)) (X ⊕ (K ⊗ (⊝ R))) tt

least : (x a : ℤ) → x ≤ℤ a → int_min x a ≡ x
least x a h = let i = int_min_is x a in omega (arith, ints, i, h)

one_step : (x y z s : ℤ) (k : ℕ) → y ≡ x +ℤ pos (k + 1) *ℤ s → z ≡ x +ℤ pos k *ℤ s → y -ℤ z ≡ s
one_step x y z s k e f = let n = next_product k s in omega (arith, ints, e, f, n)

module _ (own : Own) (rates : Rates) where
  stepped : (x y rate : ℤ) (upper : Bool) (n : ℕ) → pos 0 ≤ℤ rate → (IsTrue upper → x ≤ℤ y) → (upper ≡ false → y ≤ℤ x) → (IsTrue upper → IsWholeLegs (y -ℤ x) rate n)
      → (upper ≡ false → IsWholeLegs (x -ℤ y) rate n)
      → (k : ℕ) → k ≤ n → toward_of x y (pos k *ℤ rate) ≡ x +ℤ pos k *ℤ step_of upper rate
  stepped x y rate true n r0 up down ul dl k h =
      let u = up refl in
      let w = within own rates rate r0 (y -ℤ x) n (ul refl) (omega (arith, ints, u)) k h in
      toward_short x y (pos k *ℤ rate) (product_nonneg k rate r0) w
  stepped x y rate false n r0 up down ul dl k h =
      let d = down refl in
      let w = within own rates rate r0 (x -ℤ y) n (dl refl) (omega (arith, ints, d)) k h in
      toward_short_down x y (pos k *ℤ rate) (product_nonneg k rate r0) w ∙ back x k rate

  pub speed_way : (g : ℤ) (upper : Bool) (n : ℕ) → pos 0 ≤ℤ rates.gs → (IsTrue upper → own.gs ≤ℤ g) → (upper ≡ false → g ≤ℤ own.gs) → (IsTrue upper
      → IsWholeLegs (g -ℤ own.gs) rates.gs n) → (upper ≡ false → IsWholeLegs (own.gs -ℤ g) rates.gs n)
      → (k : ℕ) → k < n + 1 → IsOnWay own rates (GroundSpeed g) upper k
  speed_way g upper n r0 up down ul dl k h = stepped own.gs g rates.gs upper n r0 up down ul dl k (omega (arith, h))

  pub climb_way : (w : ℤ) (upper : Bool) (n : ℕ) → pos 0 ≤ℤ rates.vs → (IsTrue upper → own.vs ≤ℤ w) → (upper ≡ false → w ≤ℤ own.vs) → (IsTrue upper
      → IsWholeLegs (w -ℤ own.vs) rates.vs n) → (upper ≡ false → IsWholeLegs (own.vs -ℤ w) rates.vs n)
      → (k : ℕ) → k < n + 1 → IsOnWay own rates (VerticalSpeed w) upper k
  climb_way w upper n r0 up down ul dl k h = stepped own.vs w rates.vs upper n r0 up down ul dl k (omega (arith, h))

  pub height_way : (a : ℤ) (upper : Bool) (n : ℕ) → pos 0 ≤ℤ rates.alt → (IsTrue upper → (pos 60 *ℤ own.alt) ≤ℤ (pos 60 *ℤ a)) → (upper ≡ false → (pos 60 *ℤ a) ≤ℤ (pos 60 *ℤ own.alt))
      → (IsTrue upper → IsWholeLegs (pos 60 *ℤ a -ℤ pos 60 *ℤ own.alt) rates.alt n) → (upper ≡ false → IsWholeLegs (pos 60 *ℤ own.alt -ℤ pos 60 *ℤ a) rates.alt n)
      → (k : ℕ) → k < n → IsOnWay own rates (Altitude a) upper k
  height_way a upper n r0 up down ul dl k h = one_step (pos 60 *ℤ own.alt) (height_after own rates a (k + 1)) (height_after own rates a k) (step_of upper rates.alt) k
      (stepped (pos 60 *ℤ own.alt) (pos 60 *ℤ a) rates.alt upper n r0 up down ul dl (k + 1) (omega (arith, h)))
      (stepped (pos 60 *ℤ own.alt) (pos 60 *ℤ a) rates.alt upper n r0 up down ul dl k (omega (arith, h)))

  pub track_way : (c : ℤ) (upper : Bool) (n : ℕ) → pos 0 ≤ℤ rates.turn → (IsTrue upper → right_angle own.trk c ≤ℤ pos 180) → (upper ≡ false → pos 181 ≤ℤ right_angle own.trk c)
      → (IsTrue upper → IsWholeLegs (right_angle own.trk c) rates.turn n) → (upper ≡ false → IsWholeLegs (pos 360 -ℤ right_angle own.trk c) rates.turn n)
      → (k : ℕ) → k < n + 1 → IsOnWay own rates (Track c) upper k
  track_way c true n r0 right left rl ll k h =
      let r = right refl in
      let l = within own rates rates.turn r0 (right_angle own.trk c) n (rl refl) (angle_least own.trk c) k (omega (arith, h)) in (
        sym (turned_right own.trk c (pos k *ℤ rates.turn) (le_true (right_angle own.trk c) (pos 180) r))
            ∙ ap (λ (z : ℤ). int_rem_euclid (own.trk +ℤ z) (pos 360)) (least (pos k *ℤ rates.turn) (right_angle own.trk c) l),
        omega (arith, ints, l, r),
      )
  track_way c false n r0 right left rl ll k h =
      let r = left refl in
      let l = within own rates rates.turn r0 (pos 360 -ℤ right_angle own.trk c) n (ll refl) (angle_most own.trk c) k (omega (arith, h)) in (
        sym (turned_left own.trk c (pos k *ℤ rates.turn) (le_false (right_angle own.trk c) (pos 180) (omega (arith, ints, r))))
            ∙ ap (λ (z : ℤ). int_rem_euclid (own.trk -ℤ z) (pos 360)) (least (pos k *ℤ rates.turn) (pos 360 -ℤ right_angle own.trk c) l)
            ∙ ap (λ (z : ℤ). int_rem_euclid z (pos 360)) (back own.trk k rates.turn),
        omega (arith, ints, l, r),
      )

  -- of a branch that is known
  pub way_is : (candidate known : Candidate) (b c : Parting) → candidate ≡ known → b ≡ c → ((k : ℕ) → k < c.leaves → IsOnWay own rates known c.upper k) → (k : ℕ) → k < b.leaves
      → IsOnWay own rates candidate b.upper k
  way_is candidate known b c e is h k l = subst (λ (x : Candidate). IsOnWay own rates x b.upper k) (sym e) (subst (λ (y : Parting). (j : ℕ) → j < y.leaves
      → IsOnWay own rates known y.upper j) (sym is) h k l)

  -- ---- the velocity there
  pub track_there : (c t : ℤ) (k : ℕ) (v : Solid) → v ≡ record { flat = velocity_of own.gs t; up = own.vs } → turned own.trk c (pos k *ℤ rates.turn) ≡ t → v ≡ velocity_on own rates (Track c) k
  unfolding velocity_on ground_speed_on track_on vertical_speed_on
  track_there c t k v e w = e ∙ (λ i. record { flat = velocity_of own.gs (sym w i); up = own.vs })

  pub speed_there : (g gs : ℤ) (k : ℕ) (v : Solid) → v ≡ record { flat = velocity_of gs own.trk; up = own.vs } → toward_of own.gs g (pos k *ℤ rates.gs) ≡ gs
      → v ≡ velocity_on own rates (GroundSpeed g) k
  unfolding velocity_on ground_speed_on track_on vertical_speed_on
  speed_there g gs k v e w = e ∙ (λ i. record { flat = velocity_of (sym w i) own.trk; up = own.vs })

  pub climb_there : (w up : ℤ) (k : ℕ) (v : Solid) → v ≡ record { flat = velocity_of own.gs own.trk; up = up } → toward_of own.vs w (pos k *ℤ rates.vs) ≡ up
      → v ≡ velocity_on own rates (VerticalSpeed w) k
  unfolding velocity_on ground_speed_on track_on vertical_speed_on
  climb_there w up k v e h = e ∙ (λ i. record { flat = velocity_of own.gs own.trk; up = sym h i })

  pub height_there : (a up : ℤ) (k : ℕ) (v : Solid) → v ≡ record { flat = velocity_of own.gs own.trk; up = up }
      → height_after own rates a (k + 1) -ℤ height_after own rates a k ≡ up → v ≡ velocity_on own rates (Altitude a) k
  unfolding velocity_on ground_speed_on track_on vertical_speed_on
  height_there a up k v e h = e ∙ (λ i. record { flat = velocity_of own.gs own.trk; up = sym h i })

  -- a ground speed on the way is one
  pub speed_small : (g gs : ℤ) (k : ℕ) → IsOwnInRange own → AreRatesInRange rates → IsFrom (pos 0) (pos 10000) g → toward_of own.gs g (pos k *ℤ rates.gs) ≡ gs → IsFrom (pos 0) (pos 10000) gs
  speed_small g gs k o r h e = subst (λ (z : ℤ). IsFrom (pos 0) (pos 10000) z) e
      (toward_of-between (pos 0) (pos 10000) own.gs g (pos k *ℤ rates.gs) (product_nonneg k rates.gs (omega (arith, ints, r.gs.least))) (own_speed o) h)

one : (s : ℤ) → pos 1 *ℤ s ≡ s
one s = omega (arith, ints)

-- a number of seconds as the code has it
pub one_is : (s x : ℤ) → x ≡ pos 1 *ℤ s → x ≡ s
one_is s x e = e ∙ one s

-- less than a turn from a track
pub near_round : (t s : ℤ) (k : ℕ) (upper : Bool) → IsFrom (pos 0) (pos 359) t → pos 0 ≤ℤ s → (pos k *ℤ s) ≤ℤ pos 180 → IsFrom (neg_ℤ (pos 360)) (pos 719) (t +ℤ pos k *ℤ step_of upper s)
near_round t s k true h s0 l = let p = product_nonneg k s s0 in record { least = omega (arith, ints, h.least, p); most = omega (arith, ints, h.most, l) }
near_round t s k false h s0 l =
    let p = product_nonneg k s s0 in
    let e : t -ℤ pos k *ℤ s ≡ t +ℤ pos k *ℤ neg_ℤ s = back t k s in
    subst (λ (z : ℤ). IsFrom (neg_ℤ (pos 360)) (pos 719) z) e (record { least = omega (arith, ints, h.least, l); most = omega (arith, ints, h.most, p) })
