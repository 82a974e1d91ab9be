-- A kind has a recovery: what recovers can be decided.
use Rattle.std.proofs.Common.{◌≡◌, ◌≢◌, ◌⊎◌, inl, inr, ℕ, zero, suc, ◌+◌, ◌-◌, ◌<◌, ◌≤◌, ℤ, pos, ◌+ℤ◌, ◌*ℤ◌}
use Rattle.std.proofs.Common.{◌≤ℤ◌, nat_abs, Option, Some, None, List, [], ◌∷◌, length, max, sym, subst, arith, ⊎_elim, refl}
use Rattle.std.specs.Prelude.{int_le, slice_get}
use Rattle.std.proofs.lemmas.Bool.{cases_lt}
use Rattle.std.proofs.lemmas.Int.{ints}
use Rattle.std.proofs.lemmas.Option.{slice_get_within, get_or_from_slice_get}
use Rattle.std.specs.List.{All}
use Rattle.daa_taumod.specs.declared.Volume.{Volume}
use Rattle.daa_config.specs.declared.candidate.Candidate.{Candidate}
use Rattle.daa_config.specs.declared.kind.Kind.{Kind}
use Rattle.daa_config.specs.declared.level.Level.{Level}
use Rattle.daa_config.specs.Candidates.{grid_of, values_of, candidate_to}
use Rattle.daa_fixed.specs.One.{HasOne}
use Rattle.daa_config.specs.Settings.{Settings, IsAccepted, IsCandidateInRange, IsLevelAt}
use Rattle.daa_fixed.proofs.Decidable.{IsDecidable, by_test, as_decided, some_decided}
use Rattle.daa_config.proofs.RangeLemmas.{size_is}
use Rattle.daa_config.proofs.GridLemmas.{value_there}
use Rattle.daa_config.proofs.CandidateLemmas.{in_range-to}
use Rattle.daa_state.specs.declared.word.Picture.{Picture}
use Rattle.daa_state.specs.declared.word.Traffic.{Traffic}
use Rattle.daa_state.specs.InRange.{IsTrafficInRange, IsPictureInRange}
use Rattle.daa_state.specs.Picture.{aircraft_of}
use Rattle.daa_legs.specs.Meeting.{MeetsWithin}
use Rattle.daa_legs.specs.Runs.{MeetsBetween}
use Rattle.daa_legs.proofs.AtLevel.{one_level, looked, nothing, level_at}
use Rattle.daa_meet.proofs.TrialLemmas.{le_is}
use Rattle.daa_meet.proofs.Meetings.{within_decided, between_decided}
use Rattle.daa_resolve.specs.Side.{present_of}
use Rattle.daa_resolve.specs.declared.side.Side.{Side}
use Rattle.daa_resolve.proofs.SomeResolution.{side_decided}
use Rattle.daa_recovery.specs.OutlookState.{Closes, IsHorizon, OutlookState}
use Rattle.daa_recovery.specs.Inside.OutlookState.{IsOutlook}
use Rattle.daa_recovery.specs.Recovery.{IsAmong, IsClosedFrom, IsClear, Recovers, IsFound, IsRecoveryAmong}
use Rattle.daa_recovery.specs.Inside.Search.{bound_for, IsFoundBelow, IsLeastTime}
use Rattle.daa_recovery.specs.declared.recovery.Recovery.{Recovery}
use Rattle.daa_recovery.proofs.Horizons.{IsHorizonUpTo, horizon_first, horizon_more, horizon_all, horizon_short, level_within}
use Rattle.daa_recovery.proofs.ClosingLevels.{closed_at}
use Rattle.daa_recovery.proofs.Searching.{found_first, found_beside, found_kept, found_sooner, found_all}
use Rattle.daa_recovery.proofs.OneRecovery.{recovery_only}

pub at_place : {X : Type 0} (P : X → Type 0) (xs : List X) (i : ℕ) (x : X) → All P xs → slice_get xs i ≡ Some x → P x
at_place P xs i x h e = subst P (get_or_from_slice_get xs i x x e) (h i x (slice_get_within xs i x e))

-- ---- whether a candidate recovers

module _ (p : OutlookState) (is : IsOutlook p) (candidate : Candidate) (c : IsCandidateInRange candidate) where
  module _ (aircraft : Traffic) (t : IsTrafficInRange aircraft) (m : ℕ) where
    -- level l closes and is violated from m on
    record ClosesAt (l : ℕ) : Type 0 where
      level : Level
      closes : Closes p.settings l level
      meets : MeetsBetween p.settings p.picture.own candidate aircraft level.volume m level.lookahead

    closes_decided : (l : ℕ) (level : Level) → IsLevelAt p.settings l level → IsDecidable (ClosesAt l)
    closes_decided l level at = go (by_test (int_le p.settings.numbers.resolve (pos l)) (le_is _ _))
        (between_decided p.settings p.picture.own candidate aircraft is.accepted is.picture.own c t level.volume
        (is.accepted.level l level at).volume m level.lookahead (is.accepted.level l level at).lookahead_most)
      where
        go : IsDecidable (p.settings.numbers.resolve ≤ℤ pos l) → IsDecidable (MeetsBetween p.settings p.picture.own candidate aircraft level.volume m level.lookahead) → IsDecidable (ClosesAt l)
        go (inl from) (inl x) = inl (record { level = level; closes = record { there = at; from = from }; meets = x })
        go (inl from) (inr none) = inr
            (λ x. none
            (subst (λ (y : Level). MeetsBetween p.settings p.picture.own candidate aircraft y.volume m y.lookahead)
            (one_level p.settings l x.level level x.closes.there at) x.meets))
        go (inr early) x = inr (λ x. early x.closes.from)

    level_decided : (l : ℕ) → IsDecidable (ClosesAt l)
    level_decided l = go (level_at p.settings l)
      where
        go : ((level : Level) × IsLevelAt p.settings l level) ⊎ ((level : Level) → IsLevelAt p.settings l level → ⊥) → IsDecidable (ClosesAt l)
        go (inl (level, at)) = closes_decided l level at
        go (inr none) = inr (λ x. none x.level x.closes.there)

    closed_decided : IsDecidable (IsClosedFrom p candidate m aircraft)
    closed_decided = as_decided (
      (λ (l, lt, x). closed_at p candidate m aircraft l x.level x.closes.there x.closes.from x.meets),
      (λ x. let w = level_within p.settings x.number x.level x.closes.there in
          (x.number, omega (arith, w), record { level = x.level; closes = x.closes; meets = record { leg = x.leg; not_before = x.violates.0; before = x.before; violates = x.violates.1 } })),
    ) (some_decided ClosesAt (suc (length p.settings.levels)) (λ l lt. level_decided l))

    clear_decided : IsDecidable (IsClear p candidate m aircraft)
    clear_decided = go closed_decided
        (within_decided p.settings p.picture.own candidate aircraft is.accepted is.picture.own c t p.cylinder
        is.cylinder p.horizon (horizon_short p.settings p.horizon is.accepted is.horizon))
      where
        go : IsDecidable (IsClosedFrom p candidate m aircraft) → IsDecidable (MeetsWithin p.settings p.picture.own candidate aircraft p.cylinder p.horizon)
            → IsDecidable (IsClear p candidate m aircraft)
        go (inl x) y = inr (λ k. k.open_levels x)
        go (inr none) (inl y) = inr (λ k. k.apart y)
        go (inr none) (inr apart) = inl (record { open_levels = none; apart = apart })

  -- the aircraft at a place is not kept clear of
  record IsUnclearAt (m place : ℕ) : Type 0 where
    aircraft : Traffic
    there : slice_get (aircraft_of p.picture) place ≡ Some aircraft
    unclear : ¬ IsClear p candidate m aircraft

  unclear_decided : (m place : ℕ) → IsDecidable (IsUnclearAt m place)
  unclear_decided m place = go (looked (slice_get (aircraft_of p.picture) place))
    where
      at : (aircraft : Traffic) → slice_get (aircraft_of p.picture) place ≡ Some aircraft → IsDecidable (IsClear p candidate m aircraft) → IsDecidable (IsUnclearAt m place)
      at aircraft e (inl k) = inr (λ x. x.unclear (subst (IsClear p candidate m) (some_same aircraft x.aircraft e x.there) k))
        where
          some_same : (a b : Traffic) → slice_get (aircraft_of p.picture) place ≡ Some a → slice_get (aircraft_of p.picture) place ≡ Some b → a ≡ b
          some_same a b f g = cc
      at aircraft e (inr none) = inl (record { aircraft = aircraft; there = e; unclear = none })

      go : ((t : Traffic) × (slice_get (aircraft_of p.picture) place ≡ Some t)) ⊎ (slice_get (aircraft_of p.picture) place ≡ None) → IsDecidable (IsUnclearAt m place)
      go (inl (t, e)) = at t e (clear_decided t (at_place IsTrafficInRange (aircraft_of p.picture) place t is.picture.traffic e) m)
      go (inr none) = inr (λ x. nothing x.aircraft _ none x.there)

  pub recovers_decided : (m : ℕ) → IsDecidable (Recovers p candidate m)
  recovers_decided m = go (some_decided (IsUnclearAt m) (length (aircraft_of p.picture)) (λ place lt. unclear_decided m place))
    where
      clear : (aircraft : Traffic) → IsTrafficInRange aircraft → (IsClear p candidate m aircraft → ⊥) ⊎ IsClear p candidate m aircraft
      clear aircraft t = swap (clear_decided aircraft t m)
        where
          swap : IsDecidable (IsClear p candidate m aircraft) → (IsClear p candidate m aircraft → ⊥) ⊎ IsClear p candidate m aircraft
          swap (inl k) = inr k
          swap (inr n) = inl n

      go : IsDecidable ((place : ℕ) × (place < length (aircraft_of p.picture)) × IsUnclearAt m place) → IsDecidable (Recovers p candidate m)
      go (inl (place, lt, x)) = inr (λ r. x.unclear (r place x.aircraft x.there))
      go (inr none) = inl (λ place aircraft e. ⊎_elim
          (λ n. absurd (none (place, slice_get_within (aircraft_of p.picture) place aircraft e, record { aircraft = aircraft; there = e; unclear = n })))
          (λ (k : IsClear p candidate m aircraft). k)
          (clear aircraft (at_place IsTrafficInRange (aircraft_of p.picture) place aircraft is.picture.traffic e)))

  -- ---- the least time

  some_time : (bound : ℕ) → (t : Option ℕ) × IsLeastTime p candidate bound t
  some_time zero = (None, λ m one lt. absurd (omega (arith, lt)))
  some_time (suc n) = let b = some_time n in go b.0 b.1 (recovers_decided n)
    where
      at : IsLeastTime p candidate n None → Recovers p candidate n → (0 < n) ⊎ (n ≤ 0) → (t : Option ℕ) × IsLeastTime p candidate (suc n) t
      at h r (inl some) = (Some n, record { some = some; below = omega arith; recovers = r; none_sooner = h })
      at h r (inr le) = (None, λ m one lt. absurd (omega (arith, one, lt, le)))

      go : (t : Option ℕ) → IsLeastTime p candidate n t → IsDecidable (Recovers p candidate n) → (t : Option ℕ) × IsLeastTime p candidate (suc n) t
      go (Some k) h d = (Some k, record { some = h.some; below = omega (arith, h.below); recovers = h.recovers; none_sooner = h.none_sooner })
      go None h (inl r) = at h r (cases_lt 0 n)
      go None h (inr none) = (
        None,
        λ m one lt. ⊎_elim
            (λ b. h m one b)
            (λ ge r. let e : m ≡ n = omega (arith, lt, ge) in none (subst (Recovers p candidate) e r))
            (cases_lt m n),
      )

  pub least_time : (bound : ℕ) → (t : Option ℕ) × IsLeastTime p candidate bound t
  least_time = some_time

-- ---- the recovery

among_decided : (side : Option Side) (kind : Kind) (now value : ℤ) → IsDecidable (IsAmong side kind now value)
among_decided None kind now value = inl tt
among_decided (Some side) kind now value = side_decided kind side now value

module _ (p : OutlookState) (is : IsOutlook p) (kind : Kind) (side : Option Side) where
  some_below : (count : ℕ) → count ≤ length (values_of kind p.settings) → (found : Option Recovery) × IsFoundBelow p kind side count found
  some_below zero h = (None, found_first p kind side)
  some_below (suc n) h =
      let b = some_below n (omega (arith, h)) in
      let z : ℤ = (grid_of kind p.settings).min +ℤ pos n *ℤ (grid_of kind p.settings).step in
      let v = value_there kind p.settings n is.accepted (omega (arith, h)) in
      let t = least_time p is (candidate_to kind z) (in_range-to kind z v.in_range) (bound_for p kind b.0 z) in
      by_side z v.there b.0 b.1 (among_decided side kind (present_of kind p.picture.own) z) t.0 t.1
    where
      one_more : n + 1 ≡ suc n
      one_more = omega arith

      go : (z : ℤ) → slice_get (values_of kind p.settings) n ≡ Some z → (found : Option Recovery) → IsFoundBelow p kind side n found
          → IsAmong side kind (present_of kind p.picture.own) z
          → (t : Option ℕ) → IsLeastTime p (candidate_to kind z) (bound_for p kind found z) t → (new : Option Recovery) × IsFoundBelow p kind side (suc n) new
      go z there found b among None none = (found, subst (λ (i : ℕ). IsFoundBelow p kind side i found) one_more (found_kept p kind side n z there found b none))
      go z there found b among (Some after) l = (
        Some (record { after = after; value = z }),
        subst (λ (i : ℕ). IsFoundBelow p kind side i (Some (record { after = after; value = z }))) one_more (found_sooner p kind side n z there found after b among l),
      )

      by_side : (z : ℤ) → slice_get (values_of kind p.settings) n ≡ Some z → (found : Option Recovery) → IsFoundBelow p kind side n found
          → IsDecidable (IsAmong side kind (present_of kind p.picture.own) z)
          → (t : Option ℕ) → IsLeastTime p (candidate_to kind z) (bound_for p kind found z) t → (new : Option Recovery) × IsFoundBelow p kind side (suc n) new
      by_side z there found b (inl among) t l = go z there found b among t l
      by_side z there found b (inr none) t l = (found, subst (λ (i : ℕ). IsFoundBelow p kind side i found) one_more (found_beside p kind side n z there found b none))

  pub some_found : (found : Option Recovery) × IsFound p kind side found
  some_found = let b = some_below (length (values_of kind p.settings)) (omega arith) in (b.0, found_all p kind side _ b.0 (omega arith) b.1)

module _ (s : Settings) (a : IsAccepted s) where
  level_there : (l : ℕ) → 1 ≤ l → l ≤ length s.levels → (level : Level) × IsLevelAt s l level
  level_there l one le = go (looked (slice_get s.levels (l - 1)))
    where
      there : slice_get s.levels (l - 1) ≡ None → ⊥
      there e = past s.levels (l - 1) (omega (arith, one, le)) e
        where
          past : (xs : List Level) (i : ℕ) → i < length xs → slice_get xs i ≡ None → ⊥
          past [] i h e = omega (arith, h)
          past (x ∷ xs) zero h e = cc
          past (x ∷ xs) (suc i) h e = past xs i (omega (arith, h)) e

      go : ((level : Level) × (slice_get s.levels (l - 1) ≡ Some level)) ⊎ (slice_get s.levels (l - 1) ≡ None) → (level : Level) × IsLevelAt s l level
      go (inl (level, e)) = (level, record { numbered = one; there = e })
      go (inr none) = absurd (there none)

  first : ℕ
  first = nat_abs s.numbers.resolve

  first_is : pos first ≡ s.numbers.resolve
  unfolding first
  first_is = sym (size_is s.numbers.resolve (least a.resolve.least))
    where
      least : pos 1 ≤ℤ s.numbers.resolve → pos 0 ≤ℤ s.numbers.resolve
      least h = omega (arith, ints, h)

  horizon_up_to : (n : ℕ) → first + n ≤ length s.levels → (m : ℕ) × IsHorizonUpTo s (first + n) m
  horizon_up_to zero h =
      let one : 1 ≤ first = (let r = a.resolve.least in omega (arith, ints, first_is, r)) in
      let f = level_there first one (omega (arith, h)) in
      let same : first ≡ first + 0 = omega arith in
      (f.0.lookahead, subst (λ (l : ℕ). IsHorizonUpTo s l f.0.lookahead) same (horizon_first s first f.0 first_is f.1))
  horizon_up_to (suc n) h =
      let b = horizon_up_to n (omega (arith, h)) in
      let f = level_there (first + n + 1) (omega arith) (omega (arith, h)) in
      let same : first + n + 1 ≡ first + suc n = omega arith in
      let from : s.numbers.resolve ≤ℤ pos (first + n + 1) = omega (arith, ints, first_is) in
      (max b.0 f.0.lookahead, subst (λ (l : ℕ). IsHorizonUpTo s l (max b.0 f.0.lookahead)) same (horizon_more s (first + n) b.0 (max b.0 f.0.lookahead) f.0 from f.1 refl b.1))

  pub some_horizon : (m : ℕ) × IsHorizon s m
  some_horizon =
      let r = a.resolve.most in
      let few : first ≤ length s.levels = omega (arith, ints, first_is, r) in
      let b = horizon_up_to (length s.levels - first) (omega (arith, few)) in
      (b.0, horizon_all s _ b.0 (omega (arith, few)) b.1)

  pub one_recovery : (side : Option Side) (picture : Picture) (kind : Kind) → IsPictureInRange picture → s.recovery ≢ None → HasOne (IsRecoveryAmong side s picture kind)
  one_recovery side picture kind in' asked = go (looked s.recovery)
    where
      go : ((v : Volume) × (s.recovery ≡ Some v)) ⊎ (s.recovery ≡ None) → HasOne (IsRecoveryAmong side s picture kind)
      go (inl (v, e)) =
          let m = some_horizon in
          let p : OutlookState = record { settings = s; picture = picture; cylinder = v; horizon = m.0 } in
          let f = some_found p (record { accepted = a; picture = in'; cylinder = (a.recovery v e).in_range; horizon = m.1 }) kind side in
          let is : IsRecoveryAmong side s picture kind f.0 = record { cylinder = v; horizon = m.0; asked = e; ahead = m.1; found = f.1 } in
          record { one = f.0; is = is; only = λ other h. recovery_only side s picture kind a other f.0 h is }
      go (inr none) = absurd (asked none)
