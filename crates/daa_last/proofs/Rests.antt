-- The rest of a delayed flight: its runs, and where it begins.
use Rattle.std.proofs.Common.{◌≡◌, ℕ, zero, suc, ◌+◌, ◌-◌, ◌<◌, ◌≤◌, refl, ap, sym, subst, ◌∙◌, ⊎_elim, arith, ℤ, pos, ◌-ℤ◌, ◌*ℤ◌}
use Rattle.std.specs.Prelude.{if◌then◌else◌}
use Rattle.std.proofs.lemmas.Bool.{lt-ltb, le-ltb, cases_lt}
use Rattle.daa_fixed.specs.declared.Solid.{Solid}
use Rattle.daa_fixed.specs.Leg.{plus, times, IsSolidBelow}
use Rattle.daa_fixed.specs.Size.{IsWithin}
use Rattle.daa_fixed.specs.Toward.{toward_of}
use Rattle.daa_fixed.proofs.Bounds.{below}
use Rattle.daa_config.specs.declared.config.Rates.{Rates}
use Rattle.daa_config.specs.declared.candidate.Candidate.{Candidate}
use Rattle.daa_config.specs.declared.candidate.Candidate.TheVariants.{Hold, Track, GroundSpeed, VerticalSpeed, Altitude}
use Rattle.daa_config.specs.Settings.{AreRatesInRange, IsCandidateInRange}
use Rattle.daa_state.specs.declared.word.Own.{Own}
use Rattle.daa_state.specs.InRange.{IsOwnInRange}
use Rattle.daa_legs.specs.declared.own_leg.OwnLeg.{OwnLeg}
use Rattle.daa_legs.specs.declared.own_leg.OwnRun.{OwnRun}
use Rattle.daa_legs.specs.declared.branch.Branch.{Branch}
use Rattle.daa_legs.specs.Branch.{FliesAs}
use Rattle.daa_legs.specs.Motion.{ground_speed_on, track_on, velocity_on}
use Rattle.daa_legs.specs.OwnLeg.{own_leg, IsOwnLegInRange}
use Rattle.daa_legs.specs.Runs.{IsOwnRunInRange}
use Rattle.daa_legs.specs.Table.{IsBranchOf}
use Rattle.daa_legs.proofs.ClosedForms.{hold-velocity}
use Rattle.daa_last.specs.declared.rest.Rest.{Rest}
use Rattle.daa_last.specs.Delayed.{velocity_delayed, place_delayed, leg_delayed}
use Rattle.daa_last.specs.Inside.Rests.{velocity_from, flown_at, IsMovedAlone, IsRestOf}
use Rattle.daa_last.proofs.Delays.{held_place, begun, told, delayed_place-below, delayed-in_range, delayed_place_alike}
use Rattle.daa_last.proofs.LateRuns.{IsLateRun, at_first, at_next}

-- but to an altitude the next velocity is what the flight has
pub other_velocity : (rates : Rates) (candidate : Candidate) (place flown : Solid) → ((a : ℤ) → candidate ≡ Altitude a → ⊥) → flown ≡ velocity_from rates candidate place flown
unfolding velocity_from
other_velocity rates Hold place flown h = refl
other_velocity rates (Track c) place flown h = refl
other_velocity rates (GroundSpeed c) place flown h = refl
other_velocity rates (VerticalSpeed c) place flown h = refl
other_velocity rates (Altitude a) place flown h = absurd (h a refl)

pub altitude_velocity : (rates : Rates) (candidate : Candidate) (place flown : Solid) (a : ℤ) → candidate ≡ Altitude a
    → record { flat = flown.flat; up = toward_of place.up (pos 60 *ℤ a) rates.alt -ℤ place.up } ≡ velocity_from rates candidate place flown
unfolding velocity_from
altitude_velocity rates candidate place flown a e = ap (λ (c : Candidate). velocity_from rates c place flown) (sym e)

-- what is told by the rates that are known
pub by_rates : (r s : Rates) → r ≡ s → (rest : Rest) (place : Solid) (k : ℕ) (run : OwnRun)
    → ((j : ℕ) → j < run.secs → velocity_from r rest.candidate (plus place (times (pos j) run.velocity)) (flown_at rest (k + j)) ≡ run.velocity)
    → (j : ℕ) → j < run.secs → velocity_from s rest.candidate (plus place (times (pos j) run.velocity)) (flown_at rest (k + j)) ≡ run.velocity
by_rates r s e rest place k run keeps j lt = subst (λ (x : Rates). velocity_from x rest.candidate (plus place (times (pos j) run.velocity)) (flown_at rest (k + j)) ≡ run.velocity) e (keeps j lt)

-- ---- what a rest says of a leg
module _ (rest : Rest) where
  pub flown_own : (k : ℕ) → k < rest.settles → flown_at rest k ≡ record { flat = rest.velocity.flat; up = rest.rise }
  unfolding flown_at
  flown_own k lt = ap (λ b. if b then (record { flat = rest.velocity.flat; up = rest.rise }) else rest.velocity) (lt-ltb k rest.settles lt)

  pub flown_straight : (k : ℕ) → rest.settles ≤ k → flown_at rest k ≡ rest.velocity
  unfolding flown_at
  flown_straight k le = ap (λ b. if b then (record { flat = rest.velocity.flat; up = rest.rise }) else rest.velocity) (le-ltb k rest.settles le)

  pub flown_flat : (k : ℕ) → (flown_at rest k).flat ≡ rest.velocity.flat
  flown_flat k = ⊎_elim
      (λ lt. ap (λ (x : Solid). x.flat) (flown_own k lt))
      (λ le. ap (λ (x : Solid). x.flat) (flown_straight k le))
      (cases_lt k rest.settles)

module _ (own : Own) (rates : Rates) (m : ℕ) where
  -- ---- its runs
  module _ (rest : Rest) (is : IsRestOf own rates m rest) (k : ℕ) (le : rest.from ≤ k) (place : Solid) (at : place ≡ place_delayed own rates m rest.candidate k) where
    module _ (run : OwnRun) (p : run.place ≡ place)
        (keeps : (j : ℕ) → j < run.secs → velocity_from rates rest.candidate (plus place (times (pos j) run.velocity)) (flown_at rest (k + j)) ≡ run.velocity) where
      goes : (j : ℕ) → j < run.secs → place_delayed own rates m rest.candidate (k + j) ≡ plus place (times (pos j) run.velocity)
          → velocity_delayed own rates m rest.candidate (k + j) ≡ run.velocity
      goes j lt e = is.on (k + j) (omega (arith, le)) ∙ (λ i. velocity_from rates rest.candidate (e i) (flown_at rest (k + j))) ∙ keeps j lt

      there : (j : ℕ) → j ≤ run.secs → place_delayed own rates m rest.candidate (k + j) ≡ plus place (times (pos j) run.velocity)
      there zero h = at_first own rates m rest.candidate k place run.velocity at
      there (suc j) h =
          let before = there j (omega (arith, h)) in
          at_next own rates m rest.candidate k j place run.velocity before (goes j (omega (arith, h)) before)

      pub rest_run : IsLateRun own rates m rest.candidate k run
      rest_run = record { begins = p ∙ at; same = λ j lt. goes j lt (there j (omega (arith, lt))) }

      pub rest_end : (end : Solid) → end ≡ plus run.place (times (pos run.secs) run.velocity) → end ≡ place_delayed own rates m rest.candidate (k + run.secs)
      rest_end end e = e ∙ (λ i. plus (p i) (times (pos run.secs) run.velocity)) ∙ sym (there run.secs (omega arith))

      pub rest_run-in_range : IsOwnInRange own → AreRatesInRange rates → k ≤ 180 → 1 ≤ run.secs → IsOwnRunInRange run
      rest_run-in_range o r short some =
          let first : velocity_delayed own rates m rest.candidate (k + 0) ≡ run.velocity = goes 0 (omega (arith, some)) (there 0 (omega arith)) in
          let none : k + 0 ≡ k = omega arith in
          let v : velocity_delayed own rates m rest.candidate k ≡ run.velocity = subst (λ (i : ℕ). velocity_delayed own rates m rest.candidate i ≡ run.velocity) none first in
          let b : place_delayed own rates m rest.candidate k ≡ run.place = sym (p ∙ at) in
          record {
            leg = subst (λ (l : OwnLeg). IsOwnLegInRange l) (λ i. record { place = b i; velocity = v i }) (delayed-in_range own rates m o r rest.candidate is.in_range k short);
            some = some;
          }

    pub rest_height : IsOwnInRange own → AreRatesInRange rates → k ≤ 180 → IsWithin 20000000 place.up
    rest_height o r short =
        let p = subst (λ (x : Solid). IsSolidBelow 20000000 x) (sym at) (delayed_place-below own rates m o r rest.candidate is.in_range k short) in below p.up

  -- ---- the way to an altitude begins where the present flight is
  module _ (candidate : Candidate) (start : OwnLeg) (s : start ≡ own_leg own rates Hold m) where
    abbrev climb : Rest
    climb = record { candidate = candidate; from = m; settles = m; place = start.place; velocity = start.velocity; rise = pos 0 }

    over : (a : ℤ) (k : ℕ) → (velocity_on own rates (Altitude a) (k - m)).flat ≡ (flown_at climb k).flat
    unfolding velocity_on ground_speed_on track_on
    over a k = sym (flown_flat climb k ∙ ap (λ (l : OwnLeg). l.velocity.flat) s ∙ ap (λ (x : Solid). x.flat) (hold-velocity own rates m))

    climbs : (a : ℤ) (k : ℕ) → m ≤ k → AreRatesInRange rates
        → velocity_delayed own rates m (Altitude a) k ≡ velocity_from rates (Altitude a) (place_delayed own rates m (Altitude a) k) (flown_at climb k)
    unfolding velocity_from
    climbs a k le r =
        let f = over a k in
        sym (told own rates m (Altitude a) k le r)
        ∙ (λ i. record {
          flat = f i;
          up = toward_of (place_delayed own rates m (Altitude a) k).up (pos 60 *ℤ a) rates.alt -ℤ (place_delayed own rates m (Altitude a) k).up;
        })

    pub climbing_rest : AreRatesInRange rates → (a : ℤ) → candidate ≡ Altitude a → IsCandidateInRange candidate
        → IsRestOf own rates m (record { candidate = candidate; from = m; settles = m; place = start.place; velocity = start.velocity; rise = pos 0 })
    climbing_rest r a e c = record {
      in_range = c;
      not_before = omega arith;
      at = ap (λ (l : OwnLeg). l.place) s ∙ sym (held_place own rates m candidate m (omega arith));
      on = λ k le. subst
          (λ (x : Candidate). velocity_delayed own rates m x k ≡ velocity_from rates x (place_delayed own rates m x k) (flown_at climb k))
          (sym e) (climbs a k le r);
    }

  -- ---- any other candidate leaves the flight that leads on its side
  module _ (candidate lead : Candidate) (c : IsCandidateInRange candidate) (x : IsMovedAlone own rates m candidate) (y : IsMovedAlone own rates m lead)
      (other : (a : ℤ) → candidate ≡ Altitude a → ⊥) (branch : Branch) (is : IsBranchOf own rates candidate branch) (alike : FliesAs own rates candidate lead branch.leaves)
      (short : branch.leaves < 180) (leg : OwnLeg) (l : leg ≡ leg_delayed own rates m lead (m + branch.leaves)) where
    abbrev made : Rest
    made = record { candidate = candidate; from = m + branch.leaves; settles = m + branch.settles; place = leg.place; velocity = branch.velocity; rise = branch.rise }

    flies : (k : ℕ) → m + branch.leaves ≤ k → velocity_on own rates candidate (k - m) ≡ flown_at made k
    flies k le = ⊎_elim
        (λ lt.
        let near = is.near.1 in
        let same : branch.leaves ≡ k - m = omega (arith, le, lt, near) in
        ap (λ (j : ℕ). velocity_on own rates candidate j) (sym same) ∙ is.rise (omega (arith, le, lt)) short ∙ sym (flown_own made k lt))
        (λ ge. is.after.there (k - m) (omega (arith, ge)) ∙ sym is.velocity ∙ sym (flown_straight made k ge))
        (cases_lt k (m + branch.settles))

    pub leaving_rest : IsRestOf own rates m
        (record { candidate = candidate; from = m + branch.leaves; settles = m + branch.settles; place = leg.place; velocity = branch.velocity; rise = branch.rise })
    leaving_rest = record {
      in_range = c;
      not_before = omega arith;
      at = ap (λ (i : OwnLeg). i.place) l ∙ sym (delayed_place_alike own rates m candidate lead x y branch.leaves alike (m + branch.leaves) (omega arith));
      on = λ k le. begun own rates m candidate k (omega (arith, le)) ∙ x (k - m) ∙ flies k le
          ∙ other_velocity rates candidate (place_delayed own rates m candidate k) (flown_at made k) other;
    }
