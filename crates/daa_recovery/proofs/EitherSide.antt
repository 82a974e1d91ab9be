-- The recovery of a kind is that of one of its sides.
use Rattle.std.proofs.Common.{◌≡◌, inl, inr, ℕ, ◌+◌, ◌*◌, ◌%◌, ◌≤◌, ◌<◌, ℤ, pos, ◌+ℤ◌, ◌-ℤ◌, ◌≤ℤ◌, Option, Some, None, refl, arith, ⊎_elim}
use Rattle.std.specs.Prelude.{nat_abs, ◌<ℤ◌}
use Rattle.std.specs.Int.{int_rem_euclid}
use Rattle.std.proofs.lemmas.Bool.{cases_lt}
use Rattle.std.proofs.lemmas.Int.{ints, int_rem_euclid_is}
use Rattle.daa_config.specs.declared.kind.Kind.{Kind}
use Rattle.daa_config.specs.declared.kind.Kind.TheVariants.{Track, GroundSpeed, VerticalSpeed, Altitude}
use Rattle.daa_config.specs.Settings.{Settings}
use Rattle.daa_config.proofs.RangeLemmas.{size_is}
use Rattle.daa_fixed.proofs.Decidable.{IsDecidable}
use Rattle.daa_state.specs.declared.word.Picture.{Picture}
use Rattle.daa_resolve.specs.Side.{present_of, IsOnSide}
use Rattle.daa_resolve.specs.declared.side.Side.{Side}
use Rattle.daa_resolve.specs.declared.side.Side.TheVariants.{Lower, Upper}
use Rattle.daa_resolve.proofs.SomeResolution.{side_decided}
use Rattle.daa_recovery.specs.OutlookState.{OutlookState}
use Rattle.daa_recovery.specs.Recovery.{IsAmong, RecoversAt, IsLeast, IsRecoveryAmong}
use Rattle.daa_recovery.specs.declared.recovery.Recovery.{Recovery}

-- ---- each value is on a side

-- the turns to the two sides
turn_there : (m n k : ℕ) → m + n ≡ 720 * k → ((1 ≤ m % 360) × (m % 360 ≤ 180) → ⊥) → n % 360 ≤ 179
turn_there m n k e none = ⊎_elim
    (λ (zero_is : m % 360 < 1). omega (arith, e, zero_is))
    (λ some. ⊎_elim
    (λ (far : 180 < m % 360). omega (arith, e, far))
    (λ near. absurd (none (some, near)))
    (cases_lt 180 (m % 360)))
    (cases_lt (m % 360) 1)

module _ (now value : ℤ) where
  turns : ℕ
  turns = nat_abs (value -ℤ now)

  ahead : pos 0 ≤ℤ ((value -ℤ now) +ℤ pos (turns * 360))
  unfolding turns
  ahead = omega (arith, ints)

  behind : pos 0 ≤ℤ ((now -ℤ value) +ℤ pos (turns * 360))
  unfolding turns
  behind = omega (arith, ints)

  m : ℕ
  m = nat_abs ((value -ℤ now) +ℤ pos (turns * 360))

  n : ℕ
  n = nat_abs ((now -ℤ value) +ℤ pos (turns * 360))

  m_is : ((value -ℤ now) +ℤ pos (turns * 360)) ≡ pos m
  unfolding m
  m_is = size_is _ ahead

  n_is : ((now -ℤ value) +ℤ pos (turns * 360)) ≡ pos n
  unfolding n
  n_is = size_is _ behind

  right_is : int_rem_euclid (value -ℤ now) (pos 360) ≡ pos (m % 360)
  right_is = int_rem_euclid_is (value -ℤ now) (pos 360) 360 turns m (omega arith) refl m_is

  left_is : int_rem_euclid (now -ℤ value) (pos 360) ≡ pos (n % 360)
  left_is = int_rem_euclid_is (now -ℤ value) (pos 360) 360 turns n (omega arith) refl n_is

  to_left : (IsOnSide Track Upper now value → ⊥) → IsOnSide Track Lower now value
  to_left none =
      let both : m + n ≡ 720 * turns = omega (arith, ints, m_is, n_is) in
      let turn = turn_there m n turns both (λ (some, near). none (omega (arith, ints, right_is, some), omega (arith, ints, right_is, near))) in
      (omega (arith, ints, left_is), omega (arith, ints, left_is, turn))

  not_beyond : (now <ℤ value → ⊥) → value ≤ℤ now
  not_beyond none = grind (arith, ints, none)

  left_else : (kind : Kind) → (IsOnSide kind Upper now value → ⊥) → IsOnSide kind Lower now value
  left_else Track none = to_left none
  left_else GroundSpeed none = not_beyond none
  left_else VerticalSpeed none = not_beyond none
  left_else Altitude none = not_beyond none

  pub on_some_side : (kind : Kind) → (side : Side) × IsOnSide kind side now value
  on_some_side kind = go (side_decided kind Upper now value)
    where
      go : IsDecidable (IsOnSide kind Upper now value) → (side : Side) × IsOnSide kind side now value
      go (inl up) = (Upper, up)
      go (inr none) = (Lower, left_else kind none)

-- ---- recoveries

module _ (p : OutlookState) (kind : Kind) (side : Option Side) where
  widened : (i k : ℕ) (v : ℤ) → RecoversAt p kind side i k v → RecoversAt p kind None i k v
  widened i k v x = record { there = x.there; among = tt; recovers = x.recovers }

  narrowed : (r : Recovery) → IsAmong side kind (present_of kind p.picture.own) r.value → IsLeast p kind None r → IsLeast p kind side r
  narrowed r among h = record {
    index = h.index;
    some = h.some;
    before = h.before;
    recovers = record { there = h.recovers.there; among = among; recovers = h.recovers.recovers };
    none_sooner = λ k one lt i v x. h.none_sooner k one lt i v (widened i k v x);
    first = λ i v x. h.first i v (widened i r.after v x);
  }

module _ (s : Settings) (p : Picture) (kind : Kind) where
  pub soonest_of_a_side : (r : Recovery) → IsRecoveryAmong None s p kind (Some r) → (side : Side) × IsRecoveryAmong (Some side) s p kind (Some r)
  soonest_of_a_side r h =
      let on = on_some_side (present_of kind p.own) r.value kind in (
        on.0,
        record {
          cylinder = h.cylinder;
          horizon = h.horizon;
          asked = h.asked;
          ahead = h.ahead;
          found = narrowed (record { settings = s; picture = p; cylinder = h.cylinder; horizon = h.horizon }) kind (Some on.0) r on.1 h.found;
        },
      )

  pub none_on_sides : IsRecoveryAmong None s p kind None → (side : Side) → IsRecoveryAmong (Some side) s p kind None
  none_on_sides h side = record {
    cylinder = h.cylinder;
    horizon = h.horizon;
    asked = h.asked;
    ahead = h.ahead;
    found = λ k one lt i v x. h.found k one lt i v (widened (record { settings = s; picture = p; cylinder = h.cylinder; horizon = h.horizon }) kind (Some side) i k v x);
  }
