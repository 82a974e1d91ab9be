-- Each side has an answer, wherever it can be decided what is covered.
use Rattle.std.proofs.Common.{◌≡◌, ◌<◌, ◌≤◌, ◌+◌, ◌-◌, ◌⊎◌, ℕ, zero, suc, ℤ, pos, ◌≤ℤ◌, Bool, true, false, List, Option, Some, None, length, slice_get, refl, subst, arith, inl, inr}
use Rattle.std.specs.Prelude.{◌<ℤ◌, int_lt, slice_index}
use Rattle.std.specs.Int.{bit_at}
use Rattle.std.proofs.lemmas.Int.{ints}
use Rattle.daa_config.specs.Candidates.{values_of, start_of}
use Rattle.daa_config.specs.Settings.{Settings, IsAccepted}
use Rattle.daa_config.specs.declared.candidate.Resolution.{Resolution}
use Rattle.daa_config.specs.declared.candidate.Resolution.TheVariants.{Keep, To, Nothing}
use Rattle.daa_config.specs.declared.kind.Kind.{Kind}
use Rattle.daa_config.specs.declared.kind.Kind.TheVariants.{Track, GroundSpeed, VerticalSpeed, Altitude}
use Rattle.daa_config.proofs.GridLemmas.{get-values}
use Rattle.daa_fixed.proofs.Decidable.{IsDecidable, both_decided, some_decided}
use Rattle.daa_state.specs.declared.word.Own.{Own}
use Rattle.daa_bands.specs.Board.{HasLevelOn}
use Rattle.daa_resolve.specs.Inside.Best.{IsBest}
use Rattle.daa_resolve.specs.Open.{IsOpen}
use Rattle.daa_fixed.specs.One.{HasOne}
use Rattle.daa_resolve.specs.Resolution.{IsOpenOnSide, IsResolution}
use Rattle.daa_resolve.specs.Side.{present_of, distance_of, IsOnSide}
use Rattle.daa_resolve.specs.declared.side.Side.{Side}
use Rattle.daa_resolve.specs.declared.side.Side.TheVariants.{Lower, Upper}
use Rattle.daa_resolve.proofs.BestLemmas.{skip, first, keep, change, nothing, going}
use Rattle.daa_resolve.proofs.OneResolution.{one_answer}

-- one of two numbers is not greater
order_of : (x y : ℤ) → (x ≤ℤ y) ⊎ (y <ℤ x)
order_of x y = go (int_lt y x) refl
  where
    go : (t : Bool) → int_lt y x ≡ t → (x ≤ℤ y) ⊎ (y <ℤ x)
    go true e = inr (grind (arith, ints))
    go false e = inl (grind (arith, ints))

at_most_decided : (x y : ℤ) → IsDecidable (x ≤ℤ y)
at_most_decided x y = go (order_of x y)
  where
    go : (x ≤ℤ y) ⊎ (y <ℤ x) → IsDecidable (x ≤ℤ y)
    go (inl h) = inl h
    go (inr h) = inr (λ k. omega (arith, ints))

below_decided : (x y : ℤ) → IsDecidable (x <ℤ y)
below_decided x y = go (order_of y x)
  where
    go : (y ≤ℤ x) ⊎ (x <ℤ y) → IsDecidable (x <ℤ y)
    go (inl h) = inr (λ k. omega (arith, ints))
    go (inr h) = inl h

one_decided : (n : ℕ) → IsDecidable (n ≡ 1)
one_decided zero = inr (λ e. omega arith)
one_decided (suc zero) = inl refl
one_decided (suc (suc n)) = inr (λ e. omega arith)

-- ---- sides

within_decided : (low high angle : ℤ) → IsDecidable ((low ≤ℤ angle) × (angle ≤ℤ high))
within_decided low high angle = both_decided (low ≤ℤ angle) (angle ≤ℤ high) (at_most_decided low angle) (at_most_decided angle high)

pub side_decided : (kind : Kind) (side : Side) (now value : ℤ) → IsDecidable (IsOnSide kind side now value)
side_decided Track Upper now value = within_decided (pos 1) (pos 180) (distance_of Track Upper now value)
side_decided Track Lower now value = within_decided (pos 0) (pos 179) (distance_of Track Lower now value)
side_decided GroundSpeed Upper now value = below_decided now value
side_decided GroundSpeed Lower now value = at_most_decided value now
side_decided VerticalSpeed Upper now value = below_decided now value
side_decided VerticalSpeed Lower now value = at_most_decided value now
side_decided Altitude Upper now value = below_decided now value
side_decided Altitude Lower now value = at_most_decided value now

-- ---- open candidates

module _ (Covered : ℕ → ℕ → Type 0) (decided : (index l : ℕ) → IsDecidable (Covered index l)) (s : Settings) where
  -- covered at a corrective level below n
  abbrev CoveredBelow : ℕ → ℕ → Type 0
  CoveredBelow index n = (l : ℕ) × (l < n) × ((s.numbers.resolve ≤ℤ pos l) × Covered index l)

  covered_below : (index n : ℕ) → IsDecidable (CoveredBelow index n)
  covered_below index n = some_decided (λ l. (s.numbers.resolve ≤ℤ pos l) × Covered index l) n
      (λ l b. both_decided (s.numbers.resolve ≤ℤ pos l) (Covered index l) (at_most_decided s.numbers.resolve (pos l)) (decided index l))

  open_decided : (index : ℕ) → IsDecidable (IsOpen Covered s index)
  open_decided index = go (covered_below index (length s.levels + 1))
    where
      go : IsDecidable (CoveredBelow index (length s.levels + 1)) → IsDecidable (IsOpen Covered s index)
      go (inl (l, b, (a, c))) = inr (λ o. o l a (omega arith) c)
      go (inr none) = inl (λ l a b c. none (l, omega arith, (a, c)))

  module _ (own : Own) (kind : Kind) (side : Side) where
    open_on_side_decided : (p : ℕ) (v : ℤ) → slice_get (values_of kind s) p ≡ Some v → IsDecidable (IsOpenOnSide Covered s own kind side p v)
    open_on_side_decided p v e = go (side_decided kind side (present_of kind own) v) (open_decided (start_of kind s + p))
      where
        go : IsDecidable (IsOnSide kind side (present_of kind own) v) → IsDecidable (IsOpen Covered s (start_of kind s + p)) → IsDecidable (IsOpenOnSide Covered s own kind side p v)
        go (inl a) (inl b) = inl (record { value_is = e; on_side = a; is_open = b })
        go (inl a) (inr n) = inr (λ c. n c.is_open)
        go (inr n) b = inr (λ c. n c.on_side)

    -- how far a value is on the side
    abbrev far : ℤ → ℤ
    far v = distance_of kind side (present_of kind own) v

    -- the nearest of the places below n and of n
    abbrev Best : ℕ → Type 0
    Best n = (best : Option ℕ) × IsBest Covered s own kind side n best

    one_more : (n : ℕ) (v : ℤ) → slice_get (values_of kind s) n ≡ Some v → Best n → IsDecidable (IsOpenOnSide Covered s own kind side n v) → Best (n + 1)
    one_more n v e (best, h) (inr none) = (
      best,
      skip Covered s own kind side n best h (λ w c.
          let f : w ≡ v = (let x = c.value_is in cc) in none (subst (λ (z : ℤ). IsOpenOnSide Covered s own kind side n z) f c)),
    )
    one_more n v e (None, h) (inl c) = (Some n, first Covered s own kind side n v h c)
    one_more n v e (Some other, h) (inl c) = go (order_of (far h.0) (far v))
      where
        go : (far h.0 ≤ℤ far v) ⊎ (far v <ℤ far h.0) → Best (n + 1)
        go (inl k) = (Some other, keep Covered s own kind side n other v h c k)
        go (inr k) = (Some n, change Covered s own kind side n other v h c (omega (arith, ints)))

    best_of : (n : ℕ) → n ≤ length (values_of kind s) → Best n
    best_of zero h = (None, λ p v k c. absurd (omega arith))
    best_of (suc n) h =
        let e = get-values kind s n (omega arith) in
        let same : n + 1 ≡ suc n = omega arith in
        subst Best same (one_more n _ e (best_of n (omega arith)) (open_on_side_decided n _ e))

    some_resolution : (resolution : Resolution) × IsResolution Covered s own kind side resolution
    some_resolution = go (open_decided 0) (best_of (length (values_of kind s)) (omega arith))
      where
        go : IsDecidable (IsOpen Covered s 0) → Best (length (values_of kind s)) → (resolution : Resolution) × IsResolution Covered s own kind side resolution
        go (inl o) best = (Keep, o)
        go (inr closed) (None, h) = (Nothing, nothing Covered s own kind side closed h)
        go (inr closed) (Some index, h) = (To h.0, going Covered s own kind side closed index h.0 h h.2.value_is)

    pub one_resolution : IsAccepted s → HasOne (IsResolution Covered s own kind side)
    one_resolution ok =
        let a = some_resolution in
        record { one = a.0; is = a.1; only = λ other h. one_answer Covered s own ok kind side other a.0 h a.1 }

pub has_one : (board : List ℕ) (s : Settings) (own : Own) (kind : Kind) (side : Side) → IsAccepted s → HasOne (IsResolution (HasLevelOn board) s own kind side)
has_one board s own kind side ok = one_resolution (HasLevelOn board) (λ index l. one_decided (bit_at (slice_index board index) (l - 1))) s own kind side ok
