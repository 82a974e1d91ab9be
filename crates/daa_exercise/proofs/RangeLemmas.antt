-- Every moment that is drawn is in range.
use Rattle.std.proofs.Common.{◌≡◌, ◌∙◌, ◌<◌, ◌≤◌, ◌+◌, ◌*◌, ◌%◌, ℕ, zero, suc, ℤ, pos, ◌+ℤ◌, ◌-ℤ◌, ◌≤ℤ◌, neg_ℤ, nat_abs, true, List, [], ◌∷◌, refl, sym, ap, subst, arith, zero-add}
use Rattle.std.specs.Prelude.{All, slice_index_or}
use Rattle.std.proofs.lemmas.Fmt.{decimal_digit}
use Rattle.std.proofs.lemmas.Int.{ints}
use Rattle.std.proofs.lemmas.List.FromFn.{get_or-map-range_with_len}
use Rattle.daa_state.specs.Id.{is_id}
use Rattle.daa_state.specs.InRange.{IsWithin, IsOwnInRange, IsTrafficInRange, IsPictureInRange}
use Rattle.daa_state.specs.Ranges.{Bounds, positions, altitudes, tracks, ground_speeds, speeds, vertical_speeds}
use Rattle.daa_state.specs.declared.word.Traffic.{Traffic}
use Rattle.daa_state.proofs.WordRanges.{exact-range}
use Rattle.daa_exercise.specs.Inside.Drawing.{Outputs, moment_at, name_of, traffic_at}
use Rattle.daa_exercise.specs.Moments.{own_at, count_at, aircraft_at, begin_of, moment_of}
use Rattle.daa_exercise.specs.Outputs.{picked}
use Rattle.daa_exercise.proofs.MoveLemmas.{moment_is, traffic_count}

-- ---- a number that an output picks is in the range

least : (low size : ℤ) (rest : ℕ) → low ≤ℤ (low +ℤ pos rest)
least low size rest = omega (arith, ints)

most : (low high : ℤ) (rest : ℕ) → low ≤ℤ high → rest < nat_abs (high -ℤ low) + 1 → (low +ℤ pos rest) ≤ℤ high
most low high rest ordered lt = omega (arith, ints)

left_over : (output size : ℕ) → output % (size + 1) < size + 1
left_over output size = omega arith

-- and so in every range around it
pub picks : (range outer : Bounds) (output : ℕ) → outer.low ≤ℤ range.low → range.low ≤ℤ range.high → range.high ≤ℤ outer.high
    → IsWithin outer (picked range.low range.high output)
picks range outer output low ordered high =
    let n = output % (nat_abs (range.high -ℤ range.low) + 1) in
    let a = least range.low range.high n in
    let b = most range.low range.high n ordered (left_over output (nat_abs (range.high -ℤ range.low))) in
    (between low a, between b high)
  where
    between : {x y z : ℤ} → x ≤ℤ y → y ≤ℤ z → x ≤ℤ z
    between {x} {y} {z} h k = omega (arith, ints)

-- ---- the ranges of what is drawn

abbrev own_altitudes : Bounds
own_altitudes = record { low = pos 0; high = pos 20000 }

abbrev own_tracks : Bounds
own_tracks = record { low = pos 0; high = pos 359 }

abbrev own_ground_speeds : Bounds
own_ground_speeds = record { low = pos 500; high = pos 5000 }

abbrev drawn_vertical_speeds : Bounds
drawn_vertical_speeds = record { low = neg_ℤ (pos 2000); high = pos 2000 }

abbrev aircraft_counts : Bounds
aircraft_counts = record { low = pos 0; high = pos 8 }

abbrev drawn_positions : Bounds
drawn_positions = record { low = neg_ℤ (pos 8000); high = pos 8000 }

abbrev heights_above : Bounds
heights_above = record { low = neg_ℤ (pos 2000); high = pos 2000 }

abbrev drawn_speeds : Bounds
drawn_speeds = record { low = neg_ℤ (pos 5000); high = pos 5000 }

-- ---- a moment

name_is : (i : ℕ) → i < 8 → is_id (65 ∷ (48 + (i + 1)) ∷ []) ≡ true
name_is zero h = refl
name_is (suc zero) h = refl
name_is (suc (suc zero)) h = refl
name_is (suc (suc (suc zero))) h = refl
name_is (suc (suc (suc (suc zero)))) h = refl
name_is (suc (suc (suc (suc (suc zero))))) h = refl
name_is (suc (suc (suc (suc (suc (suc zero)))))) h = refl
name_is (suc (suc (suc (suc (suc (suc (suc zero))))))) h = refl
name_is (suc (suc (suc (suc (suc (suc (suc (suc i)))))))) h = absurd (omega arith)

names : (i : ℕ) → i < 8 → is_id (name_of (i + 1)) ≡ true
names i h = ap (λ (xs : List ℕ). is_id (65 ∷ xs)) (decimal_digit (i + 1) (omega arith)) ∙ name_is i h

-- an altitude and a height above it
above : (altitude height : ℤ) → IsWithin own_altitudes altitude → IsWithin heights_above height → IsWithin altitudes (altitude +ℤ height)
above altitude height h k = let a = h.0 in let b = h.1 in let c = k.0 in let d = k.1 in (omega (arith, ints), omega (arith, ints))

module _ (output : Outputs) where
  own_range : (at : ℕ) → IsOwnInRange (own_at output at)
  unfolding own_at
  own_range at = record {
    x = (omega (arith, ints), omega (arith, ints));
    y = (omega (arith, ints), omega (arith, ints));
    alt = picks own_altitudes altitudes (output at) (omega (arith, ints)) (omega (arith, ints)) (omega (arith, ints));
    trk = picks own_tracks tracks (output (at + 1)) (omega (arith, ints)) (omega (arith, ints)) (omega (arith, ints));
    gs = picks own_ground_speeds ground_speeds (output (at + 2)) (omega (arith, ints)) (omega (arith, ints)) (omega (arith, ints));
    vs = picks drawn_vertical_speeds vertical_speeds (output (at + 3)) (omega (arith, ints)) (omega (arith, ints)) (omega (arith, ints));
  }

  own_altitude : (at : ℕ) → IsWithin own_altitudes (own_at output at).alt
  unfolding own_at
  own_altitude at = picks own_altitudes own_altitudes (output at) (omega (arith, ints)) (omega (arith, ints)) (omega (arith, ints))

  pub count_few : (at : ℕ) → count_at output at ≤ 8
  unfolding count_at
  count_few at = let h = (picks aircraft_counts aircraft_counts
      (output (at + 4)) (omega (arith, ints)) (omega (arith, ints)) (omega (arith, ints))) in
      size (picked (pos 0) (pos 8) (output (at + 4))) h.0 h.1
    where
      size : (z : ℤ) → pos 0 ≤ℤ z → z ≤ℤ pos 8 → nat_abs z ≤ 8
      size z low high = omega (arith, ints)

  aircraft_range : (altitude : ℤ) (i at : ℕ) → IsWithin own_altitudes altitude → i < 8 → IsTrafficInRange (aircraft_at output altitude (i + 1) at)
  unfolding aircraft_at
  aircraft_range altitude i at high lt = record {
    id = names i lt;
    x = picks drawn_positions positions (output at) (omega (arith, ints)) (omega (arith, ints)) (omega (arith, ints));
    y = picks drawn_positions positions (output (at + 1)) (omega (arith, ints)) (omega (arith, ints)) (omega (arith, ints));
    alt = above altitude (picked (neg_ℤ (pos 2000)) (pos 2000) (output (at + 2))) high
        (picks heights_above heights_above (output (at + 2)) (omega (arith, ints)) (omega (arith, ints)) (omega (arith, ints)));
    vx = picks drawn_speeds speeds (output (at + 3)) (omega (arith, ints)) (omega (arith, ints)) (omega (arith, ints));
    vy = picks drawn_speeds speeds (output (at + 4)) (omega (arith, ints)) (omega (arith, ints)) (omega (arith, ints));
    vs = picks drawn_vertical_speeds vertical_speeds (output (at + 5)) (omega (arith, ints)) (omega (arith, ints)) (omega (arith, ints));
    age = omega arith;
    bounds = exact-range;
  }

  pub aircraft_is : (altitude : ℤ) (count at k : ℕ) (d : Traffic) → k < count → slice_index_or (traffic_at output altitude count at) k d ≡ aircraft_at output altitude (k + 1) (at + 6 * k)
  unfolding traffic_at
  aircraft_is altitude count at k d lt = get_or-map-range_with_len (λ i. aircraft_at output altitude (i + 1) (at + 6 * i)) 0 count k k d lt (zero-add k)

  traffic_range : (altitude : ℤ) (count at : ℕ) → IsWithin own_altitudes altitude → count ≤ 8 → All IsTrafficInRange (traffic_at output altitude count at)
  traffic_range altitude count at high few k d lt =
      let below : k < count = (let n = traffic_count output altitude count at in omega (arith, n, lt)) in
      subst IsTrafficInRange (sym (aircraft_is altitude count at k d below)) (aircraft_range altitude k (at + 6 * k) high (omega (arith, below, few)))

  pub drawn_range : (time at : ℕ) → IsPictureInRange (moment_at output time at)
  unfolding moment_at
  drawn_range time at = record {
    own = own_range at;
    traffic = traffic_range (own_at output at).alt (count_at output at) (at + 5) (own_altitude at) (count_few at);
    count = (let n = traffic_count output (own_at output at).alt (count_at output at) (at + 5) in let few = count_few at in omega (arith, n, few));
  }

  pub moment_range : (time : ℕ) → IsPictureInRange (moment_of output time)
  moment_range time = subst IsPictureInRange (sym (moment_is output time)) (drawn_range time (begin_of output time))
