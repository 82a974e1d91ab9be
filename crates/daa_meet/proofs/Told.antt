-- Tests, without machine numbers, of what a flight meets: the words of the scan are stated by them.
use Rattle.std.proofs.Common.{◌≡◌, ◌↔◌, inl, inr, refl, arith, ℕ, ◌<◌, ◌≤◌, ℤ, unsigned_abs, Bool, true, false, ⊎_elim}
use Rattle.std.specs.Prelude.{IsTrue}
use Rattle.std.proofs.lemmas.Bool.{cases_lt}
use Rattle.daa_fixed.specs.Leg.{IsLegInRange}
use Rattle.daa_fixed.specs.Time.{HoldsSometime}
use Rattle.daa_fixed.specs.declared.Leg.{Leg}
use Rattle.daa_fixed.proofs.Decidable.{IsDecidable, as_decided, both_decided}
use Rattle.daa_taumod.specs.declared.Volume.{Volume}
use Rattle.daa_taumod.specs.Volume.{IsVolumeInRange}
use Rattle.daa_margin.specs.declared.ErrorBounds.{ErrorBounds}
use Rattle.daa_margin.specs.ErrorBounds.{AreErrorBoundsInRange}
use Rattle.daa_margin.specs.MayViolate.{MayViolate}
use Rattle.daa_margin.proofs.Sometimes.{sometime_decided}
use Rattle.daa_config.specs.declared.candidate.Candidate.{Candidate}
use Rattle.daa_config.specs.Settings.{Settings, IsAccepted, IsCandidateInRange}
use Rattle.daa_state.specs.declared.word.Own.{Own}
use Rattle.daa_state.specs.declared.word.Traffic.{Traffic}
use Rattle.daa_state.specs.InRange.{IsOwnInRange, IsTrafficInRange}
use Rattle.daa_legs.specs.Errors.{are_exact, errors_on}
use Rattle.daa_legs.specs.Relative.{relative_for}
use Rattle.daa_legs.specs.Meeting.{relative_leg, ViolatesOn, MeetsWithin}
use Rattle.daa_legs.proofs.Exactness.{exact_leg, unsure_leg}
use Rattle.daa_legs.proofs.Growing.{errors_in_range}
use Rattle.daa_meet.proofs.Trials.{is_violated_sometime, some_below}
use Rattle.daa_meet.proofs.TrialLemmas.{some_is}
use Rattle.daa_meet.proofs.Deciding.{sometime_is}
use Rattle.daa_meet.proofs.Meetings.{leg-in_range}

-- ---- what can be decided, as a test
abbrev pub told : {A : Type 0} → IsDecidable A → Bool
told (inl a) = true
told (inr none) = false

pub told_is : {A : Type 0} (d : IsDecidable A) → IsTrue (told d) ↔ A
told_is (inl a) = ((λ _. a), (λ _. refl))
told_is (inr none) = ((λ t. absurd (cc t)), (λ a. absurd (none a)))

-- ---- ranges
le_told : (n m : ℕ) → IsDecidable (n ≤ m)
le_told n m = ⊎_elim (λ lt. inr (λ le. omega (arith, lt, le))) inl (cases_lt m n)

lt_told : (n m : ℕ) → IsDecidable (n < m)
lt_told n m = ⊎_elim inl (λ ge. inr (λ lt. omega (arith, lt, ge))) (cases_lt n m)

pub volume_told : (volume : Volume) → IsDecidable (IsVolumeInRange volume)
volume_told volume = as_decided (
  (λ x. record { dthr = x.0; zthr = x.1.0; tthr = x.1.1.0; tcoa = x.1.1.1 }),
  (λ r. (r.dthr, (r.zthr, (r.tthr, r.tcoa)))),
) (both_decided _ _ (le_told volume.dthr 360000) (both_decided _ _ (le_told volume.zthr 600000) (both_decided _ _ (le_told volume.tthr 120) (le_told volume.tcoa 120))))

pub errors_told : (bounds : ErrorBounds) → IsDecidable (AreErrorBoundsInRange bounds)
errors_told bounds = as_decided (
  (λ x. record { place = x.0; speed = x.1.0; height = x.1.1.0; climb = x.1.1.1 }),
  (λ r. (r.place, (r.speed, (r.height, r.climb)))),
) (both_decided _ _ (le_told bounds.place 8000000) (both_decided _ _ (le_told bounds.speed 30000) (both_decided _ _ (le_told bounds.height 6000000) (le_told bounds.climb 20000))))

pub leg_told : (leg : Leg) → IsDecidable (IsLegInRange leg)
leg_told leg =
    let small : (x : ℤ) (n : ℕ) → IsDecidable (unsigned_abs x < n) = λ x n. lt_told (unsigned_abs x) n in
    as_decided (
      (λ x. record {
        east = x.0;
        north = x.1.0;
        up = x.1.1.0;
        east_speed = x.1.1.1.0;
        north_speed = x.1.1.1.1.0;
        up_speed = x.1.1.1.1.1.0;
        some = x.1.1.1.1.1.1.0;
        short = x.1.1.1.1.1.1.1;
      }),
      (λ r. (r.east, (r.north, (r.up, (r.east_speed, (r.north_speed, (r.up_speed, (r.some, r.short)))))))),
    ) (both_decided _ _ (small leg.place.flat.east 40000000) (both_decided _ _ (small leg.place.flat.north 40000000) (both_decided _ _ (small leg.place.up 40000000)
    (both_decided _ _ (small leg.velocity.flat.east 40000) (both_decided _ _ (small leg.velocity.flat.north 40000) (both_decided _ _ (small leg.velocity.up 40000)
    (both_decided _ _ (le_told 1 leg.secs) (le_told leg.secs 180))))))))

-- ---- a leg that may be violated at some time
abbrev may_told : (leg : Leg) (volume : Volume) (bounds : ErrorBounds) → IsDecidable (IsLegInRange leg) → IsDecidable (IsVolumeInRange volume) → IsDecidable (AreErrorBoundsInRange bounds) → Bool
may_told leg volume bounds (inl r) (inl v) (inl b) = told (sometime_decided leg volume bounds r v b)
may_told leg volume bounds (inl r) (inl v) (inr none) = false
may_told leg volume bounds (inl r) (inr none) b = false
may_told leg volume bounds (inr none) v b = false

may_told_is : (leg : Leg) (volume : Volume) (bounds : ErrorBounds) → IsLegInRange leg → IsVolumeInRange volume → AreErrorBoundsInRange bounds
    → (r : IsDecidable (IsLegInRange leg)) (v : IsDecidable (IsVolumeInRange volume)) (b : IsDecidable (AreErrorBoundsInRange bounds))
    → IsTrue (may_told leg volume bounds r v b) ↔ HoldsSometime leg.secs (MayViolate leg volume bounds)
may_told_is leg volume bounds x y z (inl r) (inl v) (inl b) = told_is (sometime_decided leg volume bounds r v b)
may_told_is leg volume bounds x y z (inl r) (inl v) (inr none) = absurd (none z)
may_told_is leg volume bounds x y z (inl r) (inr none) b = absurd (none y)
may_told_is leg volume bounds x y z (inr none) v b = absurd (none x)

abbrev violated_if : (exact : Bool) → Leg → Volume → ErrorBounds → Bool
violated_if true leg volume bounds = is_violated_sometime leg volume
violated_if false leg volume bounds = may_told leg volume bounds (leg_told leg) (volume_told volume) (errors_told bounds)

-- the volume is violated on leg k
abbrev pub is_violated_on : Settings → Own → Candidate → Traffic → Volume → ℕ → Bool
is_violated_on settings own candidate aircraft volume k =
    violated_if (are_exact aircraft.bounds) (relative_leg settings own candidate aircraft k) volume (errors_on aircraft.bounds aircraft.age k)

-- the volume is violated on one of the legs before m
unfoldable pub is_met_within : Settings → Own → Candidate → Traffic → Volume → ℕ → Bool
is_met_within settings own candidate aircraft volume m = some_below (is_violated_on settings own candidate aircraft volume) m

module _ (settings : Settings) (own : Own) (candidate : Candidate) (aircraft : Traffic) (a : IsAccepted settings)
    (o : IsOwnInRange own) (h : IsCandidateInRange candidate) (t : IsTrafficInRange aircraft) where
  abbrev on : ℕ → Leg
  on k = relative_leg settings own candidate aircraft k

  abbrev errors : ℕ → ErrorBounds
  errors k = errors_on aircraft.bounds aircraft.age k

  on_is : (volume : Volume) → IsVolumeInRange volume → (k : ℕ) → k < 180
      → IsTrue (is_violated_on settings own candidate aircraft volume k)
      ↔ ViolatesOn settings own candidate aircraft volume k
  unfolding relative_for
  on_is volume v k l = go (are_exact aircraft.bounds) refl
    where
      leg : IsLegInRange (on k)
      leg = leg-in_range settings own candidate aircraft a o h t k l

      go : (e : Bool) → are_exact aircraft.bounds ≡ e → IsTrue (violated_if e (on k) volume (errors k)) ↔ ViolatesOn settings own candidate aircraft volume k
      go true e =
          let s = sometime_is (on k) volume leg v in
          let x = exact_leg settings own candidate aircraft volume e k in
          ((λ y. x.1 (s.0 y)), (λ y. s.1 (x.0 y)))
      go false e =
          let s = may_told_is (on k) volume (errors k) leg v (errors_in_range aircraft.bounds aircraft.age k t.bounds t.age l)
          (leg_told (on k)) (volume_told volume) (errors_told (errors k)) in
          let x = unsure_leg settings own candidate aircraft volume e k in
          ((λ y. x.1 (s.0 y)), (λ y. s.1 (x.0 y)))

  pub within_is : (volume : Volume) → IsVolumeInRange volume → (m : ℕ) → m ≤ 180
      → IsTrue (is_met_within settings own candidate aircraft volume m)
      ↔ MeetsWithin settings own candidate aircraft volume m
  unfolding is_met_within
  within_is volume v m short =
      let s = some_is (is_violated_on settings own candidate aircraft volume) m in (
        (λ x. let b = s.0 x in record { leg = b.number; before = b.below; violates = (on_is volume v b.number (omega (arith, b.below, short))).0 b.holds }),
        (λ x. s.1 (record { number = x.leg; below = x.before; holds = (on_is volume v x.leg (omega (arith, x.before, short))).1 x.violates })),
      )
