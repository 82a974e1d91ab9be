-- A walk along a flight from one leg on.
use Rattle.std.proofs.Common.{◌≡◌, ◌↔◌, ℕ, ◌+◌, ◌<◌, ◌≤◌, Bool, subst, ap, ◌∙◌, arith, ⊎_elim}
use Rattle.std.proofs.lemmas.Bool.{cases_lt}
use Rattle.std.specs.Prelude.{IsTrue}
use Rattle.daa_fixed.specs.Time.{HoldsSometime}
use Rattle.daa_fixed.specs.declared.Leg.{Leg}
use Rattle.daa_taumod.specs.declared.Volume.{Volume}
use Rattle.daa_config.specs.declared.candidate.Candidate.{Candidate}
use Rattle.daa_config.specs.Settings.{Settings, rates_of}
use Rattle.daa_state.specs.declared.word.Own.{Own}
use Rattle.daa_state.specs.declared.word.Traffic.{Traffic}
use Rattle.daa_legs.specs.FlightState.{FlightState}
use Rattle.daa_legs.specs.declared.own_leg.OwnRun.{OwnRun}
use Rattle.daa_legs.specs.Violating.{ViolatesBy}
use Rattle.daa_legs.specs.Meeting.{ViolatesOn, MeetsWithin}
use Rattle.daa_legs.specs.Runs.{IsRunOf, MeetsBetween}

-- the legs before k were flown, and none of those from the first on violates
pub record IsWalkedFrom (settings : Settings) (own : Own) (candidate : Candidate) (aircraft : Traffic) (volume : Volume) (flight : FlightState) (first k : ℕ) : Type 0 where
  pub at : flight ≡ record { own = own; rates = rates_of settings; candidate = candidate; taken = k }
  pub none : (j : ℕ) → first ≤ j → j < k → ¬ ViolatesOn settings own candidate aircraft volume j

module _ (settings : Settings) (own : Own) (candidate : Candidate) (aircraft : Traffic) (volume : Volume) where
  -- a test of the next run is one of its seconds
  pub run_is : (flight : FlightState) (first k : ℕ) (run : OwnRun) (rel : Leg) (b : Bool)
      → IsWalkedFrom settings own candidate aircraft volume flight first k
      → IsRunOf flight.own flight.rates flight.candidate flight.taken run
      → (IsRunOf own (rates_of settings) candidate k run → HoldsSometime rel.secs (ViolatesBy aircraft k rel volume) ↔ MeetsBetween settings own candidate aircraft volume k (k + run.secs))
      → IsTrue b ↔ HoldsSometime rel.secs (ViolatesBy aircraft k rel volume) → IsTrue b ↔ MeetsBetween settings own candidate aircraft volume k (k + run.secs)
  run_is flight first k run rel b w r same h =
      let its : IsRunOf own (rates_of settings) candidate k run = subst (λ (f : FlightState). IsRunOf f.own f.rates f.candidate f.taken run) w.at r in
      ((λ t. (same its).0 (h.0 t)), (λ m. h.1 ((same its).1 m)))

  pub run_walked : (flight new : FlightState) (first k secs : ℕ)
      → IsWalkedFrom settings own candidate aircraft volume flight first k
      → new ≡ record flight { taken = flight.taken + secs }
      → ¬ MeetsBetween settings own candidate aircraft volume k (k + secs)
      → IsWalkedFrom settings own candidate aircraft volume new first (k + secs)
  run_walked flight new first k secs w e h = record {
    at = e ∙ ap (λ (f : FlightState). record f { taken = f.taken + secs }) w.at;
    none = λ j from l v. ⊎_elim
        (λ before. w.none j from before v)
        (λ after. h (record { leg = j; not_before = after; before = l; violates = v }))
        (cases_lt j k);
  }

  pub met : (first k m upto : ℕ) → first ≤ k → upto ≤ m → MeetsBetween settings own candidate aircraft volume k upto → MeetsBetween settings own candidate aircraft volume first m
  met first k m upto from h e = record { leg = e.leg; not_before = omega (arith, from, e.not_before); before = omega (arith, h, e.before); violates = e.violates }

  pub walked_none : (flight : FlightState) (first m k : ℕ) → m ≤ k
      → IsWalkedFrom settings own candidate aircraft volume flight first k
      → MeetsBetween settings own candidate aircraft volume first m → ⊥
  walked_none flight first m k h w e = w.none e.leg e.not_before (omega (arith, h, e.before)) e.violates

  -- between 0 and m is within m
  pub from_zero : (m : ℕ) → MeetsBetween settings own candidate aircraft volume 0 m ↔ MeetsWithin settings own candidate aircraft volume m
  from_zero m = (
    (λ e. record { leg = e.leg; before = e.before; violates = e.violates }),
    (λ e. record { leg = e.leg; not_before = omega arith; before = e.before; violates = e.violates }),
  )
