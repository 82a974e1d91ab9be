-- Each kind has exactly one last time, or none.
use Rattle.std.proofs.Common.{◌≡◌, ◌⊎◌, inl, inr, ℕ, zero, suc, ◌<◌, ◌≤◌, pos, ◌+ℤ◌, ◌*ℤ◌, ◌≤ℤ◌, ℤ, Option, Some, None, length, sym, subst, ◌∙◌, arith, ⊎_elim}
use Rattle.std.specs.Prelude.{slice_get, int_le}
use Rattle.std.proofs.lemmas.Bool.{cases_lt}
use Rattle.std.proofs.lemmas.Option.{same_Some, slice_get_within}
use Rattle.daa_fixed.specs.One.{HasOne}
use Rattle.daa_fixed.proofs.Decidable.{IsDecidable, by_test, as_decided, some_decided}
use Rattle.daa_taumod.specs.declared.Volume.{Volume}
use Rattle.daa_taumod.specs.Volume.{IsVolumeInRange}
use Rattle.daa_config.specs.declared.candidate.Candidate.{Candidate}
use Rattle.daa_config.specs.declared.kind.Kind.{Kind}
use Rattle.daa_config.specs.declared.level.Level.{Level}
use Rattle.daa_config.specs.Candidates.{grid_of, values_of, candidate_to}
use Rattle.daa_config.specs.Settings.{Settings, IsAccepted, IsCandidateInRange, IsLevelAt, rates_of}
use Rattle.daa_config.proofs.GridLemmas.{value_there}
use Rattle.daa_config.proofs.CandidateLemmas.{in_range-to}
use Rattle.daa_state.specs.declared.word.Own.{Own}
use Rattle.daa_state.specs.declared.word.Picture.{Picture}
use Rattle.daa_state.specs.declared.word.Traffic.{Traffic}
use Rattle.daa_state.specs.InRange.{IsOwnInRange, IsTrafficInRange, IsPictureInRange}
use Rattle.daa_state.specs.Picture.{aircraft_of}
use Rattle.daa_legs.specs.Relative.{relative_for}
use Rattle.daa_legs.proofs.AtLevel.{one_level, looked, nothing, level_at}
use Rattle.daa_legs.proofs.Relatives.{relative_for-in_range}
use Rattle.daa_meet.proofs.TrialLemmas.{le_is}
use Rattle.daa_meet.proofs.Meetings.{seen_decided}
use Rattle.daa_recovery.specs.OutlookState.{Closes, IsHorizon}
use Rattle.daa_recovery.proofs.Horizons.{level_within}
use Rattle.daa_recovery.proofs.SomeRecovery.{at_place, some_horizon}
use Rattle.daa_last.specs.Delayed.{leg_delayed, ViolatesDelayed}
use Rattle.daa_last.specs.Last.{IsClosedDelayed, IsOpenDelayed, IsSomeOpen, IsLastTime}
use Rattle.daa_last.proofs.Delays.{delayed-in_range}
use Rattle.daa_last.proofs.Searching.{last_only}

module _ (settings : Settings) (a : IsAccepted settings) where
  module _ (own : Own) (o : IsOwnInRange own) (candidate : Candidate) (c : IsCandidateInRange candidate) (m : ℕ) (aircraft : Traffic) (t : IsTrafficInRange aircraft) where
    on_decided : (volume : Volume) → IsVolumeInRange volume → (k : ℕ) → k < 180 → IsDecidable (ViolatesDelayed settings own candidate m aircraft volume k)
    unfolding relative_for
    on_decided volume v k lt =
        let in_range = relative_for-in_range 1 (leg_delayed own (rates_of settings) m candidate k) aircraft k
        (delayed-in_range own (rates_of settings) m o a.rates candidate c k (omega (arith, lt))) t (omega (arith, lt)) (omega arith) (omega arith) in
        seen_decided aircraft volume k (relative_for 1 (leg_delayed own (rates_of settings) m candidate k) aircraft k) t in_range v lt

    -- level l closes and is violated
    record ClosesAt (l : ℕ) : Type 0 where
      level : Level
      closes : Closes settings l level
      leg : ℕ
      before : leg < level.lookahead
      violates : ViolatesDelayed settings own candidate m aircraft level.volume leg

    closes_decided : (l : ℕ) (level : Level) → IsLevelAt settings l level → IsDecidable (ClosesAt l)
    closes_decided l level at =
        let r = a.level l level at in
        let short = r.lookahead_most in
        go (by_test (int_le settings.numbers.resolve (pos l)) (le_is _ _))
        (some_decided (ViolatesDelayed settings own candidate m aircraft level.volume) level.lookahead (λ k lt. on_decided level.volume r.volume k (omega (arith, lt, short))))
      where
        go : IsDecidable (settings.numbers.resolve ≤ℤ pos l)
            → IsDecidable
            ((k : ℕ) × (k < level.lookahead) × ViolatesDelayed settings own candidate m aircraft level.volume k)
            → IsDecidable (ClosesAt l)
        go (inl from) (inl (k, before, v)) = inl (record { level = level; closes = record { there = at; from = from }; leg = k; before = before; violates = v })
        go (inl from) (inr none) = inr (λ x.
            let one = one_level settings l x.level level x.closes.there at in
            none (x.leg, subst (λ (y : Level). x.leg < y.lookahead) one x.before, subst (λ (y : Level). ViolatesDelayed settings own candidate m aircraft y.volume x.leg) one x.violates))
        go (inr early) x = inr (λ x. early x.closes.from)

    level_decided : (l : ℕ) → IsDecidable (ClosesAt l)
    level_decided l = go (level_at settings l)
      where
        go : ((level : Level) × IsLevelAt settings l level) ⊎ ((level : Level) → IsLevelAt settings l level → ⊥) → IsDecidable (ClosesAt l)
        go (inl (level, at)) = closes_decided l level at
        go (inr none) = inr (λ x. none x.level x.closes.there)

    closed_decided : IsDecidable (IsClosedDelayed settings own candidate m aircraft)
    closed_decided = as_decided (
      (λ (l, lt, x). record { number = l; level = x.level; closes = x.closes; leg = x.leg; before = x.before; violates = x.violates }),
      (λ x. let w = level_within settings x.number x.level x.closes.there in
          (x.number, omega (arith, w), record { level = x.level; closes = x.closes; leg = x.leg; before = x.before; violates = x.violates })),
    ) (some_decided ClosesAt (suc (length settings.levels)) (λ l lt. level_decided l))

  module _ (picture : Picture) (p : IsPictureInRange picture) where
    module _ (candidate : Candidate) (c : IsCandidateInRange candidate) (m : ℕ) where
      -- the aircraft at a place closes it
      record IsClosedAt (place : ℕ) : Type 0 where
        aircraft : Traffic
        there : slice_get (aircraft_of picture) place ≡ Some aircraft
        closed : IsClosedDelayed settings picture.own candidate m aircraft

      closed_at_decided : (place : ℕ) → IsDecidable (IsClosedAt place)
      closed_at_decided place = go (looked (slice_get (aircraft_of picture) place))
        where
          at : (aircraft : Traffic) → slice_get (aircraft_of picture) place ≡ Some aircraft → IsDecidable (IsClosedDelayed settings picture.own candidate m aircraft) → IsDecidable (IsClosedAt place)
          at aircraft e (inl x) = inl (record { aircraft = aircraft; there = e; closed = x })
          at aircraft e (inr none) = inr (λ x. none (subst (IsClosedDelayed settings picture.own candidate m) (same_Some x.aircraft aircraft (sym x.there ∙ e)) x.closed))

          go : ((t : Traffic) × (slice_get (aircraft_of picture) place ≡ Some t)) ⊎ (slice_get (aircraft_of picture) place ≡ None) → IsDecidable (IsClosedAt place)
          go (inl (t, e)) = at t e (closed_decided picture.own p.own candidate c m t (at_place IsTrafficInRange (aircraft_of picture) place t p.traffic e))
          go (inr none) = inr (λ x. nothing x.aircraft _ none x.there)

      open_decided : IsDecidable (IsOpenDelayed settings picture candidate m)
      open_decided = go (some_decided IsClosedAt (length (aircraft_of picture)) (λ place lt. closed_at_decided place))
        where
          go : IsDecidable ((place : ℕ) × (place < length (aircraft_of picture)) × IsClosedAt place) → IsDecidable (IsOpenDelayed settings picture candidate m)
          go (inl (place, lt, x)) = inr (λ free. free place x.aircraft x.there x.closed)
          go (inr none) = inl (λ place aircraft e x. none (place, slice_get_within (aircraft_of picture) place aircraft e, record { aircraft = aircraft; there = e; closed = x }))

    module _ (kind : Kind) where
      -- the value at an index is open
      record IsOpenAt (m index : ℕ) : Type 0 where
        value : ℤ
        there : slice_get (values_of kind settings) index ≡ Some value
        is_open : IsOpenDelayed settings picture (candidate_to kind value) m

      open_at_decided : (m index : ℕ) → index < length (values_of kind settings) → IsDecidable (IsOpenAt m index)
      open_at_decided m index lt =
          let z : ℤ = (grid_of kind settings).min +ℤ pos index *ℤ (grid_of kind settings).step in
          let v = value_there kind settings index a lt in
          go z v.there (open_decided (candidate_to kind z) (in_range-to kind z v.in_range) m)
        where
          go : (z : ℤ) → slice_get (values_of kind settings) index ≡ Some z → IsDecidable (IsOpenDelayed settings picture (candidate_to kind z) m) → IsDecidable (IsOpenAt m index)
          go z e (inl x) = inl (record { value = z; there = e; is_open = x })
          go z e (inr none) = inr (λ x. none (subst (λ (y : ℤ). IsOpenDelayed settings picture (candidate_to kind y) m) (same_Some x.value z (sym x.there ∙ e)) x.is_open))

      some_open_decided : (m : ℕ) → IsDecidable (IsSomeOpen settings picture kind m)
      some_open_decided m = as_decided (
        (λ (i, lt, x). record { index = i; value = x.value; there = x.there; is_open = x.is_open }),
        (λ x. (x.index, slice_get_within (values_of kind settings) x.index x.value x.there, record { value = x.value; there = x.there; is_open = x.is_open })),
      ) (some_decided (IsOpenAt m) (length (values_of kind settings)) (λ i lt. open_at_decided m i lt))

      module _ (horizon : ℕ) (ahead : IsHorizon settings horizon) where
        last_below : (n : ℕ) → n ≤ horizon → ((i : ℕ) → n ≤ i → i < horizon → ¬ IsSomeOpen settings picture kind i) → (answer : Option ℕ) × IsLastTime settings picture kind answer
        last_below zero le none = (None, record { horizon = horizon; ahead = ahead; last = λ i lt. none i (omega arith) lt })
        last_below (suc n) le none = go (some_open_decided n) (last_below n (omega (arith, le)))
          where
            go : IsDecidable (IsSomeOpen settings picture kind n)
                → (((i : ℕ) → n ≤ i → i < horizon → ¬ IsSomeOpen settings picture kind i)
                → (answer : Option ℕ) × IsLastTime settings picture kind answer)
                → (answer : Option ℕ) × IsLastTime settings picture kind answer
            go (inl x) earlier = (
              Some n,
              record { horizon = horizon; ahead = ahead; last = record { before = omega (arith, le); some = x; none_later = λ i lt before. none i (omega (arith, lt)) before } },
            )
            go (inr shut) earlier = earlier (λ i from lt. ⊎_elim
                (λ same. subst (λ (j : ℕ). ¬ IsSomeOpen settings picture kind j) (omega (arith, same, from)) shut)
                (λ later. none i (omega (arith, later)) lt)
                (cases_lt i (suc n)))

      pub one_last_time : HasOne (IsLastTime settings picture kind)
      one_last_time =
          let h = some_horizon settings a in
          let l = last_below h.0 h.1 h.0 (omega arith) (λ i from lt. absurd (omega (arith, from, lt))) in
          record { one = l.0; is = l.1; only = λ other k. last_only settings picture kind other l.0 k l.1 }
