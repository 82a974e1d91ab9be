-- A delayed flight is open exactly if the present one is clear before it begins, and it is clear from there on.
use Rattle.std.proofs.Common.{◌≡◌, ◌↔◌, ℕ, ◌+◌, ◌-◌, ◌<◌, ◌≤◌, pos, ◌≤ℤ◌, Option, Some, None, sym, subst, ⊎_elim, arith}
use Rattle.std.proofs.lemmas.Bool.{cases_lt}
use Rattle.std.specs.Prelude.{MatchOption, slice_get}
use Rattle.daa_fixed.specs.Time.{HoldsSometime}
use Rattle.daa_taumod.specs.declared.Volume.{Volume}
use Rattle.daa_config.specs.declared.candidate.Candidate.{Candidate}
use Rattle.daa_config.specs.declared.candidate.Candidate.TheVariants.{Hold}
use Rattle.daa_config.specs.Settings.{Settings, rates_of}
use Rattle.daa_state.specs.declared.word.Own.{Own}
use Rattle.daa_state.specs.declared.word.Picture.{Picture}
use Rattle.daa_state.specs.declared.word.Traffic.{Traffic}
use Rattle.daa_state.specs.Picture.{aircraft_of}
use Rattle.daa_legs.specs.declared.own_leg.OwnLeg.{OwnLeg}
use Rattle.daa_legs.specs.Branch.{FliesAs}
use Rattle.daa_legs.specs.Relative.{relative_for}
use Rattle.daa_legs.specs.Violating.{ViolatesBy}
use Rattle.daa_legs.specs.Meeting.{ViolatesOn, Meets}
use Rattle.daa_recovery.specs.OutlookState.{IsHorizon}
use Rattle.daa_last.specs.Delayed.{ViolatesDelayed}
use Rattle.daa_last.specs.Last.{IsClosedDelayed, IsOpenDelayed}
use Rattle.daa_last.specs.Inside.Starts.{IsHeldOpenOfAll, IsHeldClosed}
use Rattle.daa_last.specs.Inside.Rests.{IsMovedAlone}
use Rattle.daa_last.specs.Inside.Search.{IsClosedLateOfSome, IsStruck}
use Rattle.daa_last.proofs.Delays.{held_leg, undelayed, delayed_leg_alike}

-- a leg that is the same is violated at the same times
same_violated : (aircraft : Traffic) (volume : Volume) (k : ℕ) (x y : OwnLeg) → x ≡ y
    → HoldsSometime 1 (ViolatesBy aircraft k (relative_for 1 x aircraft k) volume) → HoldsSometime 1 (ViolatesBy aircraft k (relative_for 1 y aircraft k) volume)
same_violated aircraft volume k x y e v = subst (λ (l : OwnLeg). HoldsSometime 1 (ViolatesBy aircraft k (relative_for 1 l aircraft k) volume)) e v

module _ (settings : Settings) (own : Own) (candidate : Candidate) (m : ℕ) (aircraft : Traffic) where
  -- before leg m it violates what Hold does
  as_held : (volume : Volume) (k : ℕ) → k < m → ViolatesDelayed settings own candidate m aircraft volume k ↔ ViolatesOn settings own Hold aircraft volume k
  as_held volume k lt =
      let e = held_leg own (rates_of settings) m candidate k lt in (
        same_violated aircraft volume k _ _ e,
        same_violated aircraft volume k _ _ (sym e),
      )

  -- what Hold violates before leg m closes it
  pub closed_by_hold : (n : ℕ) → n ≤ m → IsHeldClosed settings own aircraft n → IsClosedDelayed settings own candidate m aircraft
  closed_by_hold n le x = record {
    number = x.number;
    level = x.level;
    closes = x.closes;
    leg = x.by.leg;
    before = x.by.before;
    violates = (as_held x.level.volume x.by.leg (let is = x.by.is in omega (arith, le, is))).1 x.by.violates;
  }

module _ (settings : Settings) (picture : Picture) (m : ℕ) where
  -- an aircraft that closes a part of it closes it
  pub closed_on_rest : (candidate : Candidate) (first : ℕ) → IsClosedLateOfSome settings picture candidate m first → ¬ IsOpenDelayed settings picture candidate m
  closed_on_rest candidate first x free = free x.place x.aircraft x.there
      (record { number = x.is.number; level = x.is.level; closes = x.is.closes; leg = x.is.meets.leg; before = x.is.meets.before; violates = x.is.meets.violates })

  struck_closed : (candidate : Candidate) (k : ℕ) → IsStruck settings picture candidate m k → ¬ IsOpenDelayed settings picture candidate m
  struck_closed candidate k x free = free x.place x.aircraft x.there
      (record { number = x.is.number; level = x.is.level; closes = x.is.closes; leg = k; before = x.is.before; violates = x.is.violates })

  -- it is open where none does: before leg m, up to leg first, and from there on
  pub open_of : (candidate : Candidate) (first : ℕ) → IsHeldOpenOfAll settings picture m → ((k : ℕ) → m ≤ k → k < first → ¬ IsStruck settings picture candidate m k)
      → ¬ IsClosedLateOfSome settings picture candidate m first → IsOpenDelayed settings picture candidate m
  open_of candidate first held way rest place aircraft there x = ⊎_elim
      (λ lt. held place aircraft there x.number x.level x.leg x.closes x.before lt ((as_held settings picture.own candidate m aircraft x.level.volume x.leg lt).0 x.violates))
      (λ ge. ⊎_elim
      (λ lt. way x.leg ge lt
      (record { place = place; aircraft = aircraft; there = there; is = record { number = x.number; level = x.level; closes = x.closes; before = x.before; violates = x.violates } }))
      (λ late. rest
      (record {
        place = place;
        aircraft = aircraft;
        there = there;
        is = record { number = x.number; level = x.level; closes = x.closes; meets = record { leg = x.leg; not_before = late; before = x.before; violates = x.violates } };
      }))
      (cases_lt x.leg first))
      (cases_lt x.leg m)

  -- no leg from the horizon on counts
  pub open_beyond : (candidate : Candidate) (horizon first : ℕ) → IsHorizon settings horizon → horizon ≤ first → ¬ IsClosedLateOfSome settings picture candidate m first
  open_beyond candidate horizon first ahead le x =
      let most = ahead.most x.is.number x.is.level x.is.closes in
      omega (arith, le, most, x.is.meets.before, x.is.meets.not_before)

  module _ (candidate lead : Candidate) (x : IsMovedAlone picture.own (rates_of settings) m candidate) (y : IsMovedAlone picture.own (rates_of settings) m lead)
      (n : ℕ) (alike : FliesAs picture.own (rates_of settings) candidate lead n) where
    struck_alike : (k : ℕ) → k < m + n → IsStruck settings picture candidate m k ↔ IsStruck settings picture lead m k
    struck_alike k lt =
        let e = delayed_leg_alike picture.own (rates_of settings) m candidate lead x y n alike k lt in (
          (λ s. record {
            place = s.place;
            aircraft = s.aircraft;
            there = s.there;
            is = record {
              number = s.is.number;
              level = s.is.level;
              closes = s.is.closes;
              before = s.is.before;
              violates = same_violated s.aircraft s.is.level.volume k _ _ e s.is.violates;
            };
          }),
          (λ s. record {
            place = s.place;
            aircraft = s.aircraft;
            there = s.there;
            is = record {
              number = s.is.number;
              level = s.is.level;
              closes = s.is.closes;
              before = s.is.before;
              violates = same_violated s.aircraft s.is.level.volume k _ _ (sym e) s.is.violates;
            };
          }),
        )

    -- a leg of the flight that leads closes what leaves it later
    pub blocked_closed : (j : ℕ) → j < n → IsStruck settings picture lead m (m + j) → ¬ IsOpenDelayed settings picture candidate m
    blocked_closed j lt s = struck_closed candidate (m + j) ((struck_alike (m + j) (omega (arith, lt))).1 s)

    pub open_by_lead : IsHeldOpenOfAll settings picture m → ((j : ℕ) → j < n → ¬ IsStruck settings picture lead m (m + j)) → ¬ IsClosedLateOfSome settings picture candidate m (m + n)
        → IsOpenDelayed settings picture candidate m
    open_by_lead held way rest = open_of candidate (m + n) held
        (λ k ge lt s.
        let whole : k ≡ m + (k - m) = omega (arith, ge) in
        way (k - m) (omega (arith, ge, lt)) (subst (λ (i : ℕ). IsStruck settings picture lead m i) whole ((struck_alike k lt).0 s)))
        rest

-- what an answer says, said otherwise
pub said : (A B C D : Type 0) (o : Option ℕ) → (A → C) → (B → D) → MatchOption o A (λ _. B) → MatchOption o C (λ _. D)
said A B C D None f g x = f x
said A B C D (Some n) f g x = g x

-- delayed by 0 seconds
pub open_by_0 : (settings : Settings) (picture : Picture) (candidate : Candidate)
    → IsOpenDelayed settings picture candidate 0
    ↔ ((place : ℕ) (aircraft : Traffic) (l : ℕ) → slice_get (aircraft_of picture) place ≡ Some aircraft → settings.numbers.resolve ≤ℤ pos l → ¬ Meets settings picture.own candidate aircraft l)
open_by_0 settings picture candidate = (
  (λ free place aircraft l there from x. free place aircraft there (record {
    number = l;
    level = x.level;
    closes = record { there = x.there; from = from };
    leg = x.meets.leg;
    before = x.meets.before;
    violates = same_violated aircraft x.level.volume x.meets.leg _ _ (sym (undelayed picture.own (rates_of settings) candidate x.meets.leg)) x.meets.violates;
  })),
  (λ free place aircraft there x. free place aircraft x.number there x.closes.from (record {
    level = x.level;
    there = x.closes.there;
    meets = record {
      leg = x.leg;
      before = x.before;
      violates = same_violated aircraft x.level.volume x.leg _ _ (undelayed picture.own (rates_of settings) candidate x.leg) x.violates;
    };
  })),
)
