-- How fast a listed candidate can fly.
use Rattle.std.proofs.Common.{◌≡◌, ℕ, ◌+◌, ◌-◌, ◌*◌, ◌≤◌, Bool, true, false, arith, ℤ, pos, negsuc, neg_ℤ, ◌+ℤ◌, ◌-ℤ◌, ◌*ℤ◌, ◌≤ℤ◌, unsigned_abs}
use Rattle.std.specs.Prelude.{if◌then◌else◌, int_le}
use Rattle.std.specs.Int.{int_max, int_min}
use Rattle.std.proofs.lemmas.Int.{ints, int_max_is}
use Rattle.std.proofs.lemmas.Nat.{mul-le}
use Rattle.daa_fixed.specs.Size.{IsFrom, IsWithin}
use Rattle.daa_fixed.specs.Flat.{dot_of}
use Rattle.daa_fixed.proofs.Towards.{toward_of-between}
use Rattle.daa_fixed.proofs.Integers.{le_trans_ℤ}
use Rattle.daa_heading.specs.Heading.{velocity_of}
use Rattle.daa_heading.proofs.Sines.{east-within, north-within}
use Rattle.daa_heading.proofs.Circle.{velocity-short}
use Rattle.daa_config.specs.declared.candidate.Candidate.{Candidate}
use Rattle.daa_config.specs.declared.candidate.Candidate.TheVariants.{Hold, Track, GroundSpeed, VerticalSpeed, Altitude}
use Rattle.daa_config.specs.declared.kind.Kind.{Kind}
use Rattle.daa_config.specs.declared.kind.Kind.TheVariants as kind
use Rattle.daa_config.specs.Candidates.{grid_of, least_of, greatest_of, IsCandidateOf}
use Rattle.daa_config.specs.Numbers.{count_of}
use Rattle.daa_config.specs.Settings.{Settings, IsAccepted, IsInBounds, value_bounds, rates_of}
use Rattle.daa_config.proofs.GridLemmas.{value_there, length-values, some_value, in_bounds_of, stepped_kind}
use Rattle.daa_state.specs.declared.word.Own.{Own}
use Rattle.daa_state.specs.InRange.{IsOwnInRange}
use Rattle.daa_legs.specs.Turn.{right_angle, turned}
use Rattle.daa_legs.specs.Motion.{track_on, ground_speed_on, vertical_speed_on, velocity_on}
use Rattle.daa_legs.proofs.CandidateCases.{product_nonneg, height_step}
use Rattle.daa_legs.proofs.StateRanges as state
use Rattle.daa_legs.proofs.ClosedForms.{rem_range}

-- no ground speed of a listed candidate is greater
abbrev pub top_of : Settings → Own → ℤ
top_of settings own = int_max own.gs (greatest_of kind.GroundSpeed settings)

-- no vertical speed is greater
abbrev pub rise_of : Settings → Own → ℤ
rise_of settings own =
    int_max (int_max (pos (unsigned_abs own.vs)) (pos (unsigned_abs (least_of kind.VerticalSpeed settings))))
    (int_max (pos (unsigned_abs (greatest_of kind.VerticalSpeed settings))) settings.numbers.alt.rate)

max_left : (x y : ℤ) → x ≤ℤ int_max x y
max_left x y = omega (arith, ints, int_max_is x y)

max_right : (x y : ℤ) → y ≤ℤ int_max x y
max_right x y = omega (arith, ints, int_max_is x y)

max_least : (x y z : ℤ) → x ≤ℤ z → y ≤ℤ z → int_max x y ≤ℤ z
max_least x y z h k = omega (arith, ints, int_max_is x y)

either : {low high : ℤ} (b : Bool) (x y : ℤ) → IsFrom low high x → IsFrom low high y → IsFrom low high (if b then x else y)
either true x y h k = h
either false x y h k = k

turned-in_range : (trk c by : ℤ) → IsFrom (pos 0) (pos 359) (turned trk c by)
unfolding turned
turned-in_range trk c by = either (int_le (right_angle trk c) (pos 180)) _ _ (rem_range (trk +ℤ int_min by (right_angle trk c))) (rem_range (trk -ℤ int_min by (pos 360 -ℤ right_angle trk c)))

least_in : (k : Kind) (s : Settings) → IsAccepted s → IsInBounds (value_bounds k) (least_of k s)
unfolding least_of
least_in k s a = in_bounds_of s k (grid_of k s).min a (omega (arith, ints)) (stepped_kind s k a).ordered

greatest_in : (k : Kind) (s : Settings) → IsAccepted s → IsInBounds (value_bounds k) (greatest_of k s)
unfolding greatest_of
greatest_in k s a = (value_there k s (count_of (grid_of k s) - 1) a (omega (arith, length-values k s, some_value (grid_of k s)))).in_range

module _ (settings : Settings) (own : Own) (settled : IsAccepted settings) (o : IsOwnInRange own) where
  top-small : IsFrom (pos 0) (pos 10000) (top_of settings own)
  top-small = record {
    least = omega (arith, ints, o.gs.0, max_left own.gs (greatest_of kind.GroundSpeed settings));
    most = max_least _ _ _ o.gs.1 (greatest_in kind.GroundSpeed settings settled).most;
  }

  track_on-in_range : (candidate : Candidate) (k : ℕ) → IsFrom (pos 0) (pos 359) (track_on own (rates_of settings) candidate k)
  unfolding track_on
  track_on-in_range Hold k = (state.own_track o)
  track_on-in_range (Track c) k = turned-in_range own.trk c (pos k *ℤ settings.numbers.turn_rate)
  track_on-in_range (GroundSpeed c) k = (state.own_track o)
  track_on-in_range (VerticalSpeed c) k = (state.own_track o)
  track_on-in_range (Altitude c) k = (state.own_track o)

  own_speed : IsFrom (pos 0) (top_of settings own) own.gs
  own_speed = record { least = o.gs.0; most = max_left own.gs (greatest_of kind.GroundSpeed settings) }

  ground_speed_on-top : (candidate : Candidate) (k : ℕ) → IsCandidateOf settings candidate → IsFrom (pos 0) (top_of settings own) (ground_speed_on own (rates_of settings) candidate k)
  unfolding ground_speed_on
  ground_speed_on-top Hold k h = own_speed
  ground_speed_on-top (Track c) k h = own_speed
  ground_speed_on-top (GroundSpeed g) k h = toward_of-between (pos 0) (top_of settings own) own.gs g (pos k *ℤ settings.numbers.gs.rate)
      (product_nonneg k settings.numbers.gs.rate (omega (arith, ints, settled.rates.gs.least))) own_speed
      (record { least = le_trans_ℤ _ _ _ (least_in kind.GroundSpeed settings settled).least h.least; most = le_trans_ℤ _ _ _ h.most (max_right own.gs (greatest_of kind.GroundSpeed settings)) })
  ground_speed_on-top (VerticalSpeed c) k h = own_speed
  ground_speed_on-top (Altitude c) k h = own_speed

  -- what is at most m in size, and m at most r
  sized : (x r : ℤ) → pos (unsigned_abs x) ≤ℤ r → IsFrom (neg_ℤ r) r x
  sized x r h = record { least = omega (arith, ints); most = omega (arith, ints) }

  vs_size : pos (unsigned_abs own.vs) ≤ℤ rise_of settings own
  vs_size = le_trans_ℤ _ _ _ (max_left _ (pos (unsigned_abs (least_of kind.VerticalSpeed settings))))
      (max_left _ (int_max (pos (unsigned_abs (greatest_of kind.VerticalSpeed settings))) settings.numbers.alt.rate))

  low_size : pos (unsigned_abs (least_of kind.VerticalSpeed settings)) ≤ℤ rise_of settings own
  low_size = le_trans_ℤ _ _ _ (max_right (pos (unsigned_abs own.vs)) _) (max_left _ (int_max (pos (unsigned_abs (greatest_of kind.VerticalSpeed settings))) settings.numbers.alt.rate))

  high_size : pos (unsigned_abs (greatest_of kind.VerticalSpeed settings)) ≤ℤ rise_of settings own
  high_size = le_trans_ℤ _ _ _ (max_left _ settings.numbers.alt.rate) (max_right (int_max (pos (unsigned_abs own.vs)) (pos (unsigned_abs (least_of kind.VerticalSpeed settings)))) _)

  alt_size : settings.numbers.alt.rate ≤ℤ rise_of settings own
  alt_size = le_trans_ℤ _ _ _ (max_right (pos (unsigned_abs (greatest_of kind.VerticalSpeed settings))) _)
      (max_right (int_max (pos (unsigned_abs own.vs)) (pos (unsigned_abs (least_of kind.VerticalSpeed settings)))) _)

  vertical_speed_on-top : (candidate : Candidate) (k : ℕ) → IsCandidateOf settings candidate
      → IsFrom (neg_ℤ (rise_of settings own)) (rise_of settings own) (vertical_speed_on own (rates_of settings) candidate k)
  unfolding vertical_speed_on
  vertical_speed_on-top Hold k h = sized own.vs _ vs_size
  vertical_speed_on-top (Track c) k h = sized own.vs _ vs_size
  vertical_speed_on-top (GroundSpeed g) k h = sized own.vs _ vs_size
  vertical_speed_on-top (VerticalSpeed w) k h = toward_of-between _ _ own.vs w (pos k *ℤ settings.numbers.vs.rate)
      (product_nonneg k settings.numbers.vs.rate (omega (arith, ints, settled.rates.vs.least))) (sized own.vs _ vs_size)
      (between _ _ _ _ low_size high_size h)
    where
      between : (low high r z : ℤ) → pos (unsigned_abs low) ≤ℤ r → pos (unsigned_abs high) ≤ℤ r → IsFrom low high z → IsFrom (neg_ℤ r) r z
      between low high r z h k l = record { least = omega (arith, ints, l.least); most = omega (arith, ints, l.most) }
  vertical_speed_on-top (Altitude a) k h = wider _ _ _ alt_size (height_step own (rates_of settings) a k (omega (arith, ints, settled.rates.alt.least)))
    where
      wider : (s r z : ℤ) → s ≤ℤ r → IsFrom (neg_ℤ s) s z → IsFrom (neg_ℤ r) r z
      wider s r z h l = record { least = omega (arith, ints, l.least); most = omega (arith, ints, l.most) }

  part : (x m t : ℤ) → IsWithin (unsigned_abs m) x → IsFrom (pos 0) t m → IsFrom (neg_ℤ t) t x
  part x m t h k = record { least = omega (arith, ints, h.size, k.least, k.most); most = omega (arith, ints, h.size, k.least, k.most) }

  module _ (candidate : Candidate) (listed : IsCandidateOf settings candidate) (k : ℕ) where
    pub east-top : IsFrom (neg_ℤ (top_of settings own)) (top_of settings own) (velocity_on own (rates_of settings) candidate k).flat.east
    unfolding velocity_on
    east-top = part _ _ _ (east-within (ground_speed_on own (rates_of settings) candidate k) (track_on own (rates_of settings) candidate k)) (ground_speed_on-top candidate k listed)

    pub north-top : IsFrom (neg_ℤ (top_of settings own)) (top_of settings own) (velocity_on own (rates_of settings) candidate k).flat.north
    unfolding velocity_on
    north-top = part _ _ _ (north-within (ground_speed_on own (rates_of settings) candidate k) (track_on own (rates_of settings) candidate k)) (ground_speed_on-top candidate k listed)

    pub up-top : IsFrom (neg_ℤ (rise_of settings own)) (rise_of settings own) (velocity_on own (rates_of settings) candidate k).up
    unfolding velocity_on
    up-top = vertical_speed_on-top candidate k listed

    pub length-top : dot_of (velocity_on own (rates_of settings) candidate k).flat (velocity_on own (rates_of settings) candidate k).flat ≤ℤ
        ((top_of settings own +ℤ pos 1) *ℤ (top_of settings own +ℤ pos 1))
    unfolding velocity_on
    length-top =
        let speed : ℤ = ground_speed_on own (rates_of settings) candidate k in
        let s = ground_speed_on-top candidate k listed in
        squared (velocity_of speed (track_on own (rates_of settings) candidate k)).east (velocity_of speed (track_on own (rates_of settings) candidate k)).north speed (top_of settings own) s
        (velocity-short speed (track_on own (rates_of settings) candidate k) (record { least = s.least; most = le_trans_ℤ _ _ _ s.most top-small.most }) (track_on-in_range candidate k))
      where
        square_size : (x : ℤ) → x *ℤ x ≡ pos (unsigned_abs x * unsigned_abs x)
        square_size (pos x) = omega (arith, ints)
        square_size (negsuc x) = omega (arith, ints)

        squared : (e n m t : ℤ) → IsFrom (pos 0) t m → unsigned_abs e * unsigned_abs e + unsigned_abs n * unsigned_abs n ≤ (unsigned_abs m + 1) *
            (unsigned_abs m + 1) → (e *ℤ e +ℤ n *ℤ n) ≤ℤ ((t +ℤ pos 1) *ℤ (t +ℤ pos 1))
        squared e n m (pos t) s h =
            let l : (unsigned_abs m + 1) * (unsigned_abs m + 1) ≤ (t + 1) * (t + 1) = mul-le (unsigned_abs m + 1) (unsigned_abs m + 1) (t + 1) (t + 1)
            (omega (arith, ints, s.least, s.most)) (omega (arith, ints, s.least, s.most)) in
            rw (square_size e, square_size n) (omega (arith, ints, h, l))
        squared e n m (negsuc t) s h = absurd (omega (arith, ints, s.least, s.most))
