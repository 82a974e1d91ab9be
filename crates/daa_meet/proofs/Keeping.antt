-- Tests of a flight whose legs are kept.
use Rattle.std.proofs.Common.{◌≡◌, ◌↔◌, ℕ, ◌+◌, ◌<◌, ◌≤◌, Bool, List, ap, sym, subst, ◌∙◌, arith}
use Rattle.std.specs.Prelude.{IsTrue, slice_index_or}
use Rattle.daa_fixed.specs.declared.Leg.{Leg}
use Rattle.daa_fixed.specs.declared.Solid.{Solid}
use Rattle.daa_fixed.specs.Time.{HoldsSometime}
use Rattle.daa_taumod.specs.declared.Volume.{Volume}
use Rattle.daa_config.specs.declared.candidate.Candidate.{Candidate}
use Rattle.daa_config.specs.declared.config.Rates.{Rates}
use Rattle.daa_config.specs.Settings.{Settings, AreRatesInRange, IsCandidateInRange, rates_of}
use Rattle.daa_state.specs.declared.word.Own.{Own}
use Rattle.daa_state.specs.declared.word.Traffic.{Traffic}
use Rattle.daa_state.specs.InRange.{IsOwnInRange}
use Rattle.daa_legs.specs.declared.own_leg.OwnLeg.{OwnLeg}
use Rattle.daa_legs.specs.Branch.{FliesOn}
use Rattle.daa_legs.specs.Trunk.{AreLegsOf}
use Rattle.daa_legs.specs.OwnLeg.{place_on, own_leg, IsOwnLegInRange}
use Rattle.daa_legs.specs.Relative.{relative_for}
use Rattle.daa_legs.specs.Runs.{IsRunOf, MeetsBetween}
use Rattle.daa_legs.specs.Violating.{ViolatesBy}
use Rattle.daa_legs.specs.Meeting.{ViolatesOn}
use Rattle.daa_legs.proofs.Branching.{straight_run}
use Rattle.daa_legs.proofs.Places.{place_on-below, velocity_on-below}

module _ (own : Own) (rates : Rates) (candidate : Candidate) where
  pub kept_is : (n k : ℕ) (legs : List OwnLeg) (leg : OwnLeg) → AreLegsOf own rates candidate n legs → k < n → ((d : OwnLeg) → slice_index_or legs k d ≡ leg) → leg ≡ own_leg own rates candidate k
  kept_is n k legs leg h b e = sym (e leg) ∙ h.each k leg b

  pub own_leg-in_range : (k : ℕ) → IsOwnInRange own → AreRatesInRange rates → IsCandidateInRange candidate → k ≤ 180 → IsOwnLegInRange (own_leg own rates candidate k)
  own_leg-in_range k o r h b = record { place = place_on-below own rates candidate o r h k b; velocity = velocity_on-below own rates candidate o r h k }

  -- a leg that is kept is in range
  pub kept-in_range : (n k : ℕ) (legs : List OwnLeg) (leg : OwnLeg) → AreLegsOf own rates candidate n legs → k < n → n ≤ 180 → ((d : OwnLeg) → slice_index_or legs k d ≡ leg)
      → IsOwnInRange own → AreRatesInRange rates → IsCandidateInRange candidate → IsOwnLegInRange leg
  kept-in_range n k legs leg h b most e o r c = subst (λ (l : OwnLeg). IsOwnLegInRange l) (sym (kept_is n k legs leg h b e)) (own_leg-in_range k o r c (omega (arith, b, most)))

  -- fewer legs
  pub fewer_legs : (n m : ℕ) (legs : List OwnLeg) → m ≤ n → AreLegsOf own rates candidate n legs → AreLegsOf own rates candidate m legs
  fewer_legs n m legs le h = record { room = h.room; each = λ k d b. h.each k d (omega (arith, b, le)) }

  -- straight from a leg on is so from a later one on
  pub straight_later : (n k : ℕ) → n ≤ k → FliesOn own rates candidate n → FliesOn own rates candidate k
  straight_later n k le on = record { there = λ j h. on.there j (omega (arith, le, h)) }

module _ (settings : Settings) (own : Own) (candidate : Candidate) (aircraft : Traffic) (volume : Volume) where
  -- a test of one leg
  pub leg_tested : (k : ℕ) (leg : OwnLeg) (rel : Leg) (hit : Bool) → leg ≡ own_leg own (rates_of settings) candidate k → rel ≡ relative_for 1 leg aircraft k
      → IsTrue hit ↔ HoldsSometime rel.secs (ViolatesBy aircraft k rel volume) → IsTrue hit ↔ ViolatesOn settings own candidate aircraft volume k
  unfolding relative_for
  leg_tested k leg rel hit e r h = subst (λ (l : Leg). IsTrue hit ↔ HoldsSometime l.secs (ViolatesBy aircraft k l volume)) (r ∙ ap (λ (l : OwnLeg). relative_for 1 l aircraft k) e) h

  -- a test of the straight rest
  pub rest_tested : (k secs m : ℕ) (rest : OwnLeg) (rel : Leg) (hit : Bool) → rest ≡ own_leg own (rates_of settings) candidate k → FliesOn own (rates_of settings) candidate k → k + secs ≡ m
      → (IsRunOf own (rates_of settings) candidate k
      (record { place = rest.place; velocity = rest.velocity; secs = secs })
      → HoldsSometime rel.secs (ViolatesBy aircraft k rel volume)
      ↔ MeetsBetween settings own candidate aircraft volume k (k + secs))
      → IsTrue hit ↔ HoldsSometime rel.secs (ViolatesBy aircraft k rel volume) → IsTrue hit ↔ MeetsBetween settings own candidate aircraft volume k m
  rest_tested k secs m rest rel hit e on s seconds tests =
      let there = subst
      (λ (v : Solid). IsRunOf own (rates_of settings) candidate k
      (record { place = place_on own (rates_of settings) candidate k; velocity = v; secs = secs }))
      (sym (on.there k (omega arith)))
      (straight_run own (rates_of settings) candidate k secs on) in
      let run = subst (λ (l : OwnLeg). IsRunOf own (rates_of settings) candidate k (record { place = l.place; velocity = l.velocity; secs = secs })) (sym e) there in
      let o = seconds run in
      subst (λ (n : ℕ). IsTrue hit ↔ MeetsBetween settings own candidate aircraft volume k n) s ((λ t. o.0 (tests.0 t)), (λ v. tests.1 (o.1 v)))
