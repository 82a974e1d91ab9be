-- The cases of track, speed and climb, and how large they are.
use Rattle.std.proofs.Common.{◌≡◌, ℕ, ◌+◌, ap, sym, subst, refl, arith, ℤ, pos, negsuc, neg_ℤ, ◌+ℤ◌, ◌-ℤ◌, ◌*ℤ◌, ◌≤ℤ◌}
use Rattle.std.proofs.lemmas.Int.{ints}
use Rattle.daa_fixed.proofs.Ring.{mul_nonneg}
use Rattle.daa_fixed.specs.Size.{IsWithin, IsFrom}
use Rattle.daa_fixed.specs.Toward.{toward_of}
use Rattle.daa_fixed.proofs.Towards.{from_within, toward_of-between, toward_of-step}
use Rattle.daa_config.specs.declared.config.Rates.{Rates}
use Rattle.daa_config.specs.declared.candidate.Candidate.{Candidate}
use Rattle.daa_config.specs.declared.candidate.Candidate.TheVariants.{Hold, Track, GroundSpeed, VerticalSpeed, Altitude}
use Rattle.daa_config.specs.Settings.{AreRatesInRange, IsCandidateInRange}
use Rattle.daa_state.specs.declared.word.Own.{Own}
use Rattle.daa_state.specs.InRange.{IsOwnInRange}
use Rattle.daa_legs.proofs.StateRanges.{own_speed, own_climb}
use Rattle.daa_legs.specs.Turn.{turned}
use Rattle.daa_legs.specs.Motion.{track_on, ground_speed_on, vertical_speed_on, height_after}

pub next_product : (k : ℕ) (r : ℤ) → pos (k + 1) *ℤ r ≡ pos k *ℤ r +ℤ r
next_product k r = omega (arith, ints)

pub product_nonneg : (k : ℕ) (r : ℤ) → pos 0 ≤ℤ r → pos 0 ≤ℤ (pos k *ℤ r)
product_nonneg k r h = mul_nonneg (pos k) r (omega (arith, ints)) h

module _ (own : Own) (rates : Rates) where
  pub track-case : (candidate : Candidate) (c : ℤ) (k : ℕ) → candidate ≡ Track c → turned own.trk c (pos k *ℤ rates.turn) ≡ track_on own rates candidate k
  unfolding track_on
  track-case candidate c k e = ap (λ (d : Candidate). track_on own rates d k) (sym e)

  pub track-other : (candidate : Candidate) (k : ℕ) → ((x : ℤ) → candidate ≡ Track x → ⊥) → own.trk ≡ track_on own rates candidate k
  unfolding track_on
  track-other Hold k h = refl
  track-other (Track c) k h = absurd (h c refl)
  track-other (GroundSpeed c) k h = refl
  track-other (VerticalSpeed c) k h = refl
  track-other (Altitude c) k h = refl

  pub speed-case : (candidate : Candidate) (g : ℤ) (k : ℕ) → candidate ≡ GroundSpeed g → toward_of own.gs g (pos k *ℤ rates.gs) ≡ ground_speed_on own rates candidate k
  unfolding ground_speed_on
  speed-case candidate g k e = ap (λ (d : Candidate). ground_speed_on own rates d k) (sym e)

  pub speed-other : (candidate : Candidate) (k : ℕ) → ((x : ℤ) → candidate ≡ GroundSpeed x → ⊥) → own.gs ≡ ground_speed_on own rates candidate k
  unfolding ground_speed_on
  speed-other Hold k h = refl
  speed-other (Track c) k h = refl
  speed-other (GroundSpeed c) k h = absurd (h c refl)
  speed-other (VerticalSpeed c) k h = refl
  speed-other (Altitude c) k h = refl

  pub climb-case : (candidate : Candidate) (w : ℤ) (k : ℕ) → candidate ≡ VerticalSpeed w → toward_of own.vs w (pos k *ℤ rates.vs) ≡ vertical_speed_on own rates candidate k
  unfolding vertical_speed_on
  climb-case candidate w k e = ap (λ (d : Candidate). vertical_speed_on own rates d k) (sym e)

  pub height-case : (candidate : Candidate) (a : ℤ) (k : ℕ) → candidate ≡ Altitude a → height_after own rates a (k + 1) -ℤ height_after own rates a k ≡ vertical_speed_on own rates candidate k
  unfolding vertical_speed_on
  height-case candidate a k e = ap (λ (d : Candidate). vertical_speed_on own rates d k) (sym e)

  pub climb-other : (candidate : Candidate) (k : ℕ) → ((x : ℤ) → candidate ≡ VerticalSpeed x → ⊥) → ((x : ℤ) → candidate ≡ Altitude x → ⊥) → own.vs ≡ vertical_speed_on own rates candidate k
  unfolding vertical_speed_on
  climb-other Hold k h l = refl
  climb-other (Track c) k h l = refl
  climb-other (GroundSpeed c) k h l = refl
  climb-other (VerticalSpeed c) k h l = absurd (h c refl)
  climb-other (Altitude c) k h l = absurd (l c refl)

  -- ---- how large
  pub height_step : (a : ℤ) (k : ℕ) → pos 0 ≤ℤ rates.alt → IsFrom (neg_ℤ rates.alt) rates.alt (height_after own rates a (k + 1) -ℤ height_after own rates a k)
  height_step a k h = subst
      (λ (z : ℤ). IsFrom (neg_ℤ rates.alt) rates.alt (toward_of (pos 60 *ℤ own.alt) (pos 60 *ℤ a) z -ℤ height_after own rates a k))
      (sym (next_product k rates.alt))
      (toward_of-step (pos 60 *ℤ own.alt) (pos 60 *ℤ a) (pos k *ℤ rates.alt) rates.alt (product_nonneg k rates.alt h) h)

  pub ground_speed_on-in_range : IsOwnInRange own → AreRatesInRange rates → (candidate : Candidate) (k : ℕ) → IsCandidateInRange candidate
      → IsFrom (pos 0) (pos 10000) (ground_speed_on own rates candidate k)
  unfolding ground_speed_on
  ground_speed_on-in_range o r Hold k h = own_speed o
  ground_speed_on-in_range o r (Track c) k h = own_speed o
  ground_speed_on-in_range o r (GroundSpeed g) k h = toward_of-between (pos 0) (pos 10000) own.gs g (pos k *ℤ rates.gs) (product_nonneg k rates.gs (omega (arith, ints, r.gs.least))) (own_speed o) h
  ground_speed_on-in_range o r (VerticalSpeed c) k h = own_speed o
  ground_speed_on-in_range o r (Altitude c) k h = own_speed o

  pub vertical_speed_on-within : IsOwnInRange own → AreRatesInRange rates → (candidate : Candidate) (k : ℕ) → IsCandidateInRange candidate → IsWithin 10000 (vertical_speed_on own rates candidate k)
  unfolding vertical_speed_on
  vertical_speed_on-within o r Hold k h = from_within 10000 tt tt (own_climb o)
  vertical_speed_on-within o r (Track c) k h = from_within 10000 tt tt (own_climb o)
  vertical_speed_on-within o r (GroundSpeed c) k h = from_within 10000 tt tt (own_climb o)
  vertical_speed_on-within o r (VerticalSpeed w) k h = from_within 10000 tt tt
      (toward_of-between (negsuc 9999) (pos 10000) own.vs w (pos k *ℤ rates.vs) (product_nonneg k rates.vs (omega (arith, ints, r.vs.least))) (own_climb o) h)
  vertical_speed_on-within o r (Altitude a) k h =
      let s = height_step a k (omega (arith, ints, r.alt.least)) in
      record { size = omega (arith, ints, s.least, s.most, r.alt.most) }
