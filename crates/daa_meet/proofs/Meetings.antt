-- What a candidate's flight meets can be decided.
use Rattle.std.proofs.Common.{◌↔◌, inr, arith, ℕ, ◌<◌, ◌≤◌, pos, Bool, true, false, ⊎_elim}
use Rattle.std.proofs.lemmas.Int.{ints}
use Rattle.std.proofs.lemmas.Bool.{cases_lt}
use Rattle.daa_fixed.specs.Leg.{IsLegInRange}
use Rattle.daa_fixed.specs.Time.{HoldsSometime}
use Rattle.daa_fixed.specs.declared.Leg.{Leg}
use Rattle.daa_taumod.specs.declared.Volume.{Volume}
use Rattle.daa_taumod.specs.Volume.{IsVolumeInRange}
use Rattle.daa_config.specs.declared.candidate.Candidate.{Candidate}
use Rattle.daa_config.specs.declared.candidate.Candidate.TheVariants.{Hold}
use Rattle.daa_config.specs.Settings.{Settings, IsAccepted, IsCandidateInRange, rates_of}
use Rattle.daa_fixed.proofs.Decidable.{IsDecidable, by_test, as_decided, some_decided}
use Rattle.daa_state.specs.declared.word.Own.{Own}
use Rattle.daa_state.specs.declared.word.Traffic.{Traffic}
use Rattle.daa_state.specs.InRange.{IsOwnInRange, IsTrafficInRange}
use Rattle.daa_legs.specs.OwnLeg.{own_leg}
use Rattle.daa_legs.specs.Relative.{relative_for}
use Rattle.daa_legs.specs.Errors.{are_exact, errors_on}
use Rattle.daa_legs.specs.Violating.{ViolatesBy, ViolatesIf}
use Rattle.daa_legs.specs.Meeting.{relative_leg, ViolatesOn, MeetsWithin}
use Rattle.daa_legs.specs.Runs.{MeetsBetween}
use Rattle.daa_legs.proofs.Places.{place_on-below, velocity_on-below}
use Rattle.daa_legs.proofs.Relatives.{relative_for-in_range}
use Rattle.daa_legs.proofs.Growing.{errors_in_range}
use Rattle.daa_margin.proofs.Decided.{violation_decided}
use Rattle.daa_margin.proofs.Sometimes.{sometime_decided}
use Rattle.daa_meet.proofs.Trials.{is_violated, is_violated_sometime}
use Rattle.daa_meet.proofs.Deciding.{sometime_is, violated_is}

-- what an aircraft sees of a leg that begins at second k, whether the reports are exact or not
pub seen_decided : (aircraft : Traffic) (volume : Volume) (k : ℕ) (leg : Leg) → IsTrafficInRange aircraft → IsLegInRange leg → IsVolumeInRange volume → k < 180
    → IsDecidable (HoldsSometime leg.secs (ViolatesBy aircraft k leg volume))
seen_decided aircraft volume k leg t r v l = go (are_exact aircraft.bounds)
  where
    go : (exact : Bool) → IsDecidable (HoldsSometime leg.secs (ViolatesIf exact leg volume (errors_on aircraft.bounds aircraft.age k)))
    go true = by_test (is_violated_sometime leg volume) (sometime_is leg volume r v)
    go false = sometime_decided leg volume (errors_on aircraft.bounds aircraft.age k) r v (errors_in_range aircraft.bounds aircraft.age k t.bounds t.age l)

module _ (settings : Settings) (own : Own) (candidate : Candidate) (aircraft : Traffic) (a : IsAccepted settings)
    (o : IsOwnInRange own) (h : IsCandidateInRange candidate) (t : IsTrafficInRange aircraft) where
  pub leg-in_range : (k : ℕ) → k < 180 → IsLegInRange (relative_leg settings own candidate aircraft k)
  leg-in_range k l = relative_for-in_range 1 (own_leg own (rates_of settings) candidate k) aircraft k
      (record { place = place_on-below own (rates_of settings) candidate o a.rates h k (omega (arith, l)); velocity = velocity_on-below own (rates_of settings) candidate o a.rates h k })
      t (omega (arith, l)) (omega arith) (omega arith)

  pub on_decided : (volume : Volume) → IsVolumeInRange volume → (k : ℕ) → k < 180 → IsDecidable (ViolatesOn settings own candidate aircraft volume k)
  unfolding relative_for
  on_decided volume v k l = seen_decided aircraft volume k (relative_leg settings own candidate aircraft k) t (leg-in_range k l) v l

  pub within_decided : (volume : Volume) → IsVolumeInRange volume → (m : ℕ) → m ≤ 180 → IsDecidable (MeetsWithin settings own candidate aircraft volume m)
  within_decided volume v m short =
      as_decided (
        (λ (k, before, x). record { leg = k; before = before; violates = x }),
        (λ e. (e.leg, e.before, e.violates)),
      ) (some_decided (ViolatesOn settings own candidate aircraft volume) m (λ k l. on_decided volume v k (omega (arith, l, short))))

  -- leg k is from the first on, and the volume is violated on it
  record ViolatesFrom (volume : Volume) (first k : ℕ) : Type 0 where
    from : first ≤ k
    violates : ViolatesOn settings own candidate aircraft volume k

  is_between : (volume : Volume) (first upto : ℕ) → ((k : ℕ) × (k < upto) × ViolatesFrom volume first k) ↔ MeetsBetween settings own candidate aircraft volume first upto
  is_between volume first upto = (
    (λ (k, before, x). record { leg = k; not_before = x.from; before = before; violates = x.violates }),
    (λ e. (e.leg, e.before, record { from = e.not_before; violates = e.violates })),
  )

  from_decided : (volume : Volume) → IsVolumeInRange volume → (first k : ℕ) → k < 180 → IsDecidable (ViolatesFrom volume first k)
  from_decided volume v first k l = ⊎_elim
      (λ early. inr (λ x. let from = x.from in absurd (omega (arith, early, from))))
      (λ from. as_decided ((λ x. record { from = from; violates = x }), (λ x. x.violates)) (on_decided volume v k l))
      (cases_lt k first)

  pub between_decided : (volume : Volume) → IsVolumeInRange volume → (first upto : ℕ) → upto ≤ 180 → IsDecidable (MeetsBetween settings own candidate aircraft volume first upto)
  between_decided volume v first upto short =
      as_decided (is_between volume first upto)
      (some_decided (ViolatesFrom volume first) upto (λ k l. from_decided volume v first k (omega (arith, l, short))))

-- the moment itself
module _ (settings : Settings) (own : Own) (aircraft : Traffic) (volume : Volume) where
  abbrev begin : Leg
  begin = relative_leg settings own Hold aircraft 0

  begin_decided : (exact : Bool) → IsDecidable (ViolatesIf exact begin volume (errors_on aircraft.bounds aircraft.age 0) (pos 0) (pos 1))
  begin_decided true = by_test (is_violated begin volume (pos 0) (pos 1)) (violated_is begin volume (pos 0) (pos 1))
  begin_decided false = violation_decided begin volume (errors_on aircraft.bounds aircraft.age 0) (pos 0) (pos 1) (omega (arith, ints)) (omega (arith, ints))

  pub now_decided : IsDecidable (ViolatesBy aircraft 0 (relative_leg settings own Hold aircraft 0) volume (pos 0) (pos 1))
  now_decided = begin_decided (are_exact aircraft.bounds)
