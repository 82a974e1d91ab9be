-- A walk along a flight, leg by leg.
use Rattle.std.proofs.Common.{◌≡◌, ◌↔◌, ℕ, ◌+◌, ◌<◌, ◌≤◌, Bool, subst, ap, ◌∙◌, arith, below_more, ⊎_elim}
use Rattle.std.proofs.lemmas.Bool.{cases_lt}
use Rattle.std.specs.Prelude.{IsTrue}
use Rattle.daa_fixed.specs.Time.{HoldsSometime}
use Rattle.daa_fixed.specs.declared.Leg.{Leg}
use Rattle.daa_taumod.specs.declared.Volume.{Volume}
use Rattle.daa_config.specs.declared.candidate.Candidate.{Candidate}
use Rattle.daa_config.specs.Settings.{Settings, rates_of}
use Rattle.daa_state.specs.declared.word.Own.{Own}
use Rattle.daa_state.specs.declared.word.Traffic.{Traffic}
use Rattle.daa_legs.specs.FlightState.{FlightState}
use Rattle.daa_legs.specs.declared.own_leg.OwnLeg.{OwnLeg}
use Rattle.daa_legs.specs.declared.own_leg.OwnRun.{OwnRun}
use Rattle.daa_legs.specs.OwnLeg.{own_leg}
use Rattle.daa_legs.specs.Runs.{IsRunOf, MeetsBetween}
use Rattle.daa_legs.specs.Relative.{relative_for}
use Rattle.daa_legs.specs.Violating.{ViolatesBy}
use Rattle.daa_legs.specs.Meeting.{relative_leg, ViolatesOn, MeetsWithin}

-- the legs before k were flown, and none of them violates
pub record IsWalked (settings : Settings) (own : Own) (candidate : Candidate) (aircraft : Traffic) (volume : Volume) (flight : FlightState) (k : ℕ) : Type 0 where
  pub at : flight ≡ record { own = own; rates = rates_of settings; candidate = candidate; taken = k }
  pub none : (j : ℕ) → j < k → ¬ ViolatesOn settings own candidate aircraft volume j

module _ (settings : Settings) (own : Own) (candidate : Candidate) (aircraft : Traffic) (volume : Volume) where
  -- a test of the next leg is one of the flight's leg k
  pub next_is : (flight : FlightState) (k : ℕ) (leg : OwnLeg) (rel : Leg) (b : Bool) → IsWalked settings own candidate aircraft volume flight k
      → leg ≡ own_leg flight.own flight.rates flight.candidate flight.taken → rel ≡ relative_for 1 leg aircraft k
      → IsTrue b ↔ HoldsSometime rel.secs (ViolatesBy aircraft k rel volume) → IsTrue b ↔ ViolatesOn settings own candidate aircraft volume k
  unfolding relative_for
  next_is flight k leg rel b w e r h =
      let same : rel ≡ relative_leg settings own candidate aircraft k = r ∙ ap (λ (l : OwnLeg). relative_for 1 l aircraft k)
      (e ∙ ap (λ (f : FlightState). own_leg f.own f.rates f.candidate f.taken) w.at) in
      subst (λ (l : Leg). IsTrue b ↔ HoldsSometime l.secs (ViolatesBy aircraft k l volume)) same h

  pub next_walked : (flight new : FlightState) (k : ℕ) → IsWalked settings own candidate aircraft volume flight k
      → new ≡ record flight { taken = flight.taken + 1 } → ¬ ViolatesOn settings own candidate aircraft volume k → IsWalked settings own candidate aircraft volume new (k + 1)
  next_walked flight new k w e h = record {
    at = e ∙ ap (λ (f : FlightState). record f { taken = f.taken + 1 }) w.at;
    none = below_more _ _ w.none h;
  }

  pub walked_none : (flight : FlightState) (m k : ℕ) → m ≤ k → IsWalked settings own candidate aircraft volume flight k → MeetsWithin settings own candidate aircraft volume m → ⊥
  walked_none flight m k h w e = w.none e.leg (omega (arith, h, e.before)) e.violates

  -- a test of the next run is one of its seconds
  pub run_is : (flight : FlightState) (k : ℕ) (run : OwnRun) (rel : Leg) (b : Bool) → IsWalked settings own candidate aircraft volume flight k
      → IsRunOf flight.own flight.rates flight.candidate flight.taken run
      → (IsRunOf own (rates_of settings) candidate k run → HoldsSometime rel.secs (ViolatesBy aircraft k rel volume) ↔ MeetsBetween settings own candidate aircraft volume k (k + run.secs))
      → IsTrue b ↔ HoldsSometime rel.secs (ViolatesBy aircraft k rel volume) → IsTrue b ↔ MeetsBetween settings own candidate aircraft volume k (k + run.secs)
  run_is flight k run rel b w r same h =
      let its : IsRunOf own (rates_of settings) candidate k run = subst (λ (f : FlightState). IsRunOf f.own f.rates f.candidate f.taken run) w.at r in
      ((λ t. (same its).0 (h.0 t)), (λ m. h.1 ((same its).1 m)))

  pub run_walked : (flight new : FlightState) (k secs : ℕ) → IsWalked settings own candidate aircraft volume flight k
      → new ≡ record flight { taken = flight.taken + secs } → ¬ MeetsBetween settings own candidate aircraft volume k (k + secs)
      → IsWalked settings own candidate aircraft volume new (k + secs)
  run_walked flight new k secs w e h = record {
    at = e ∙ ap (λ (f : FlightState). record f { taken = f.taken + secs }) w.at;
    none = λ j l v. ⊎_elim
        (λ before. w.none j before v)
        (λ after. h (record { leg = j; not_before = after; before = l; violates = v }))
        (cases_lt j k);
  }

  pub met : (k m upto : ℕ) → upto ≤ m → MeetsBetween settings own candidate aircraft volume k upto → MeetsWithin settings own candidate aircraft volume m
  met k m upto h e = record { leg = e.leg; before = omega (arith, h, e.before); violates = e.violates }
