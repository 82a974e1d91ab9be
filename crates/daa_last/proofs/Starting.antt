-- Which delays are worth a try, level by level and aircraft by aircraft.
use Rattle.std.proofs.Common.{◌≡◌, ℕ, ◌+◌, ◌<◌, ◌≤◌, pos, ◌≤ℤ◌, Some, length, min, refl, sym, subst, ◌∙◌, arith, ⊎_elim}
use Rattle.std.specs.Prelude.{slice_get}
use Rattle.std.proofs.lemmas.Bool.{cases_lt}
use Rattle.std.proofs.lemmas.Int.{ints}
use Rattle.std.proofs.lemmas.Option.{same_Some, slice_get_within}
use Rattle.daa_config.specs.declared.candidate.Candidate.TheVariants.{Hold}
use Rattle.daa_config.specs.declared.level.Level.{Level}
use Rattle.daa_config.specs.Settings.{Settings, IsLevelAt}
use Rattle.daa_state.specs.declared.word.Own.{Own}
use Rattle.daa_state.specs.declared.word.Picture.{Picture}
use Rattle.daa_state.specs.declared.word.Traffic.{Traffic}
use Rattle.daa_state.specs.Picture.{aircraft_of}
use Rattle.daa_legs.specs.Meeting.{ViolatesOn}
use Rattle.daa_legs.proofs.AtLevel.{one_level}
use Rattle.daa_recovery.specs.OutlookState.{Closes}
use Rattle.daa_recovery.proofs.Horizons.{level_within}
use Rattle.daa_last.specs.Inside.Starts.{AreHeldClear, IsFirstHeld, AreStartsUnder, IsHeldOpen, IsHeldClosed, AreStartsBeside, IsHeldClosedOfSome, AreStarts}

module _ (settings : Settings) (own : Own) (aircraft : Traffic) where
  -- ---- under one level
  module _ (level : Level) (most upto : ℕ) (is : upto ≡ min most level.lookahead) where
    pub cut_at : (k : ℕ) → IsFirstHeld settings own aircraft level.volume upto k → AreStartsUnder settings own aircraft level most (k + 1)
    cut_at k h =
        let b = h.before in
        record {
          within = omega (arith, is, b);
          clear = λ j lt ahead. h.none_before j (omega (arith, lt));
          ends = λ _. record { leg = k; is = refl; before = omega (arith, is, b); violates = h.violates };
        }

    pub uncut : AreHeldClear settings own aircraft level.volume upto → AreStartsUnder settings own aircraft level most most
    uncut h = record {
      within = omega arith;
      clear = λ j lt ahead. h j (omega (arith, is, lt, ahead));
      ends = λ lt. absurd (omega (arith, lt));
    }

  -- ---- level by level
  pub record AreStartsBelow (most l starts : ℕ) : Type 0 where
    pub within : starts ≤ most
    pub clear : (m : ℕ) → m < starts → (j : ℕ) (level : Level) (k : ℕ) → j < l → Closes settings j level → k < level.lookahead → k < m → ¬ ViolatesOn settings own Hold aircraft level.volume k
    pub ends : starts < most → IsHeldClosed settings own aircraft starts

  pub below_first : (most l : ℕ) → pos l ≡ settings.numbers.resolve → AreStartsBelow most l most
  below_first most l e = record {
    within = omega arith;
    clear = λ m lt j level k below closes ahead before. let f = closes.from in absurd (omega (arith, ints, e, f, below));
    ends = λ lt. absurd (omega (arith, lt));
  }

  pub below_more : (most l starts new : ℕ) (level : Level) → IsLevelAt settings l level → settings.numbers.resolve ≤ℤ pos l
      → AreStartsUnder settings own aircraft level starts new → AreStartsBelow most l starts → AreStartsBelow most (l + 1) new
  below_more most l starts new level at from u h =
      let less = u.within in
      let some = h.within in
      record {
        within = omega (arith, less, some);
        clear = λ m lt j other k below closes ahead before. ⊎_elim
            (λ earlier. h.clear m (omega (arith, lt, less)) j other k earlier closes ahead before)
            (λ ge.
            let same : j ≡ l = omega (arith, below, ge) in
            let one = one_level settings l other level (subst (λ (i : ℕ). IsLevelAt settings i other) same closes.there) at in
            let looks = subst (λ (x : Level). k < x.lookahead) one ahead in
            λ v. u.clear k (omega (arith, lt, before)) looks (subst (λ (x : Level). ViolatesOn settings own Hold aircraft x.volume k) one v))
            (cases_lt j l);
        ends = λ lt. ⊎_elim
            (λ cut. record { number = l; level = level; closes = record { there = at; from = from }; by = u.ends cut })
            (λ ge. let same : starts ≡ new = omega (arith, ge, less) in subst (IsHeldClosed settings own aircraft) same (h.ends (omega (arith, lt, same))))
            (cases_lt new starts);
      }

  pub below_all : (most l starts : ℕ) → length settings.levels < l → AreStartsBelow most l starts → AreStartsBeside settings own aircraft most starts
  below_all most l starts past h = record {
    within = h.within;
    clear = λ m lt j level k closes ahead before. let w = level_within settings j level closes.there in
        h.clear m lt j level k (omega (arith, w, past)) closes ahead before;
    ends = h.ends;
  }

-- ---- aircraft by aircraft
module _ (settings : Settings) (picture : Picture) where
  pub record AreStartsBefore (horizon n starts : ℕ) : Type 0 where
    pub within : starts ≤ horizon
    pub clear : (m : ℕ) → m < starts → (place : ℕ) (aircraft : Traffic) → place < n → slice_get (aircraft_of picture) place ≡ Some aircraft → IsHeldOpen settings picture.own aircraft m
    pub ends : starts < horizon → IsHeldClosedOfSome settings picture starts

  pub before_first : (horizon : ℕ) → AreStartsBefore horizon 0 horizon
  before_first horizon = record {
    within = omega arith;
    clear = λ m lt place aircraft before there. absurd (omega (arith, before));
    ends = λ lt. absurd (omega (arith, lt));
  }

  pub before_more : (horizon n starts new : ℕ) (here : Traffic) → slice_get (aircraft_of picture) n ≡ Some here
      → AreStartsBeside settings picture.own here starts new → AreStartsBefore horizon n starts → AreStartsBefore horizon (n + 1) new
  before_more horizon n starts new here there u h =
      let less = u.within in
      let some = h.within in
      record {
        within = omega (arith, less, some);
        clear = λ m lt place aircraft before is. ⊎_elim
            (λ earlier. h.clear m (omega (arith, lt, less)) place aircraft earlier is)
            (λ ge.
            let same : place ≡ n = omega (arith, before, ge) in
            let at : slice_get (aircraft_of picture) n ≡ Some aircraft = subst (λ (i : ℕ). slice_get (aircraft_of picture) i ≡ Some aircraft) same is in
            subst (λ (t : Traffic). IsHeldOpen settings picture.own t m) (same_Some here aircraft (sym there ∙ at)) (u.clear m lt))
            (cases_lt place n);
        ends = λ lt. ⊎_elim
            (λ cut. record { place = n; aircraft = here; there = there; is = u.ends cut })
            (λ ge. let same : starts ≡ new = omega (arith, ge, less) in subst (IsHeldClosedOfSome settings picture) same (h.ends (omega (arith, lt, same))))
            (cases_lt new starts);
      }

  pub before_all : (horizon n starts : ℕ) → length (aircraft_of picture) ≤ n → AreStartsBefore horizon n starts → AreStarts settings picture horizon starts
  before_all horizon n starts all h = record {
    within = h.within;
    clear = λ m lt place aircraft there. let w = slice_get_within (aircraft_of picture) place aircraft there in
        h.clear m lt place aircraft (omega (arith, w, all)) there;
    ends = h.ends;
  }
