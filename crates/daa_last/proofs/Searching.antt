-- The search for an open candidate, and for the greatest delay.
use Rattle.std.proofs.Common.{◌≡◌, ℕ, ◌+◌, ◌-◌, ◌<◌, ◌≤◌, pos, ℤ, Option, Some, None, length, refl, ap, sym, subst, ◌∙◌, arith, ⊎_elim}
use Rattle.std.specs.Prelude.{MatchOption, slice_get}
use Rattle.std.proofs.lemmas.Bool.{cases_lt}
use Rattle.std.proofs.lemmas.Int.{ints}
use Rattle.std.proofs.lemmas.Option.{same_Some, slice_get_within}
use Rattle.daa_config.specs.declared.kind.Kind.{Kind}
use Rattle.daa_config.specs.declared.level.Level.{Level}
use Rattle.daa_config.specs.Candidates.{values_of, candidate_to}
use Rattle.daa_config.specs.Settings.{Settings, IsLevelAt}
use Rattle.daa_state.specs.declared.word.Picture.{Picture}
use Rattle.daa_state.specs.declared.word.Traffic.{Traffic}
use Rattle.daa_state.specs.Picture.{aircraft_of}
use Rattle.daa_legs.proofs.AtLevel.{one_level}
use Rattle.daa_recovery.specs.OutlookState.{Closes, IsHorizon}
use Rattle.daa_recovery.proofs.Horizons.{level_within, horizon_only}
use Rattle.daa_last.specs.Last.{IsOpenDelayed, IsSomeOpen, IsLast, IsLastTime}
use Rattle.daa_last.specs.Inside.Starts.{IsHeldOpenOfAll, IsHeldClosedOfSome, AreStarts}
use Rattle.daa_last.proofs.Openness.{closed_by_hold}

-- ---- level by level
module _ (settings : Settings) where
  -- this holds of none of the levels below l that close
  abbrev pub IsNoLevelBelow : (Level → Type 0) → ℕ → Type 0
  IsNoLevelBelow Meets l = (j : ℕ) (level : Level) → j < l → Closes settings j level → ¬ Meets level

  module _ (Meets : Level → Type 0) where
    pub no_level_first : (l : ℕ) → pos l ≡ settings.numbers.resolve → IsNoLevelBelow Meets l
    no_level_first l e j level lt closes = let f = closes.from in absurd (omega (arith, ints, e, f, lt))

    pub no_level_more : (l : ℕ) (level : Level) → IsLevelAt settings l level → ¬ Meets level → IsNoLevelBelow Meets l → IsNoLevelBelow Meets (l + 1)
    no_level_more l level at none h j other lt closes = ⊎_elim
        (λ before. h j other before closes)
        (λ ge meets.
        let same : j ≡ l = omega (arith, lt, ge) in
        let one = one_level settings l other level (subst (λ (i : ℕ). IsLevelAt settings i other) same closes.there) at in
        none (subst Meets one meets))
        (cases_lt j l)

    pub no_level_all : (l : ℕ) → length settings.levels < l → IsNoLevelBelow Meets l → (j : ℕ) (level : Level) → Closes settings j level → ¬ Meets level
    no_level_all l past h j level closes = let w = level_within settings j level closes.there in h j level (omega (arith, w, past)) closes

-- ---- aircraft by aircraft
module _ (picture : Picture) where
  -- this holds of none of the first aircraft
  abbrev pub IsNoneBelow : (Traffic → Type 0) → ℕ → Type 0
  IsNoneBelow Closes n = (i : ℕ) (aircraft : Traffic) → i < n → slice_get (aircraft_of picture) i ≡ Some aircraft → ¬ Closes aircraft

  module _ (Closes : Traffic → Type 0) where
    pub none_more : (n : ℕ) (here : Traffic) → slice_get (aircraft_of picture) n ≡ Some here → ¬ Closes here → IsNoneBelow Closes n → IsNoneBelow Closes (n + 1)
    none_more n here there free h i aircraft lt e = ⊎_elim
        (λ before. h i aircraft before e)
        (λ ge closed.
        let same : i ≡ n = omega (arith, lt, ge) in
        let at : slice_get (aircraft_of picture) n ≡ Some aircraft = subst (λ (j : ℕ). slice_get (aircraft_of picture) j ≡ Some aircraft) same e in
        free (subst Closes (same_Some aircraft here (sym at ∙ there)) closed))
        (cases_lt i n)

    pub none_all : (n : ℕ) → length (aircraft_of picture) ≤ n → IsNoneBelow Closes n → (place : ℕ) (aircraft : Traffic) → slice_get (aircraft_of picture) place ≡ Some aircraft → ¬ Closes aircraft
    none_all n all h place aircraft e = let w = slice_get_within (aircraft_of picture) place aircraft e in h place aircraft (omega (arith, w, all)) e

-- ---- value by value
module _ (settings : Settings) (picture : Picture) (kind : Kind) (m : ℕ) where
  -- none of the first values is open
  abbrev pub AreShutBelow : ℕ → Type 0
  AreShutBelow n = (i : ℕ) (value : ℤ) → i < n → slice_get (values_of kind settings) i ≡ Some value → ¬ IsOpenDelayed settings picture (candidate_to kind value) m

  pub shut_more : (n : ℕ) (here : ℤ) → slice_get (values_of kind settings) n ≡ Some here → ¬ IsOpenDelayed settings picture (candidate_to kind here) m
      → AreShutBelow n → AreShutBelow (n + 1)
  shut_more n here there shut h i value lt e = ⊎_elim
      (λ before. h i value before e)
      (λ ge free.
      let same : i ≡ n = omega (arith, lt, ge) in
      let at : slice_get (values_of kind settings) n ≡ Some value = subst (λ (j : ℕ). slice_get (values_of kind settings) j ≡ Some value) same e in
      shut (subst (λ (z : ℤ). IsOpenDelayed settings picture (candidate_to kind z) m) (same_Some value here (sym at ∙ there)) free))
      (cases_lt i n)

  pub shut_all : (n : ℕ) → length (values_of kind settings) ≤ n → AreShutBelow n → ¬ IsSomeOpen settings picture kind m
  shut_all n all h x = let w = slice_get_within (values_of kind settings) x.index x.value x.there in h x.index x.value (omega (arith, w, all)) x.there x.is_open

-- ---- from the last delay that is worth a try down
module _ (settings : Settings) (picture : Picture) (kind : Kind) (horizon : ℕ) where
  -- no delay from m on is open, and Hold is clear before each one below
  pub record IsTriedDownTo (m : ℕ) : Type 0 where
    pub within : m ≤ horizon
    pub clear : (n : ℕ) → n < m → IsHeldOpenOfAll settings picture n
    pub none : (n : ℕ) → m ≤ n → n < horizon → ¬ IsSomeOpen settings picture kind n

  -- after Hold is closed none is open
  shut_by_hold : (m n : ℕ) → m ≤ n → IsHeldClosedOfSome settings picture m → ¬ IsSomeOpen settings picture kind n
  shut_by_hold m n le x some = some.is_open x.place x.aircraft x.there (closed_by_hold settings picture.own (candidate_to kind some.value) n x.aircraft m le x.is)

  pub tried_first : (starts : ℕ) → AreStarts settings picture horizon starts → IsTriedDownTo starts
  tried_first starts h = record {
    within = h.within;
    clear = h.clear;
    none = λ n le lt. shut_by_hold starts n le (h.ends (omega (arith, le, lt)));
  }

  pub tried_more : (m : ℕ) → 0 < m → IsTriedDownTo m → ¬ IsSomeOpen settings picture kind (m - 1) → IsTriedDownTo (m - 1)
  tried_more m some h shut =
      let within = h.within in
      record {
        within = omega (arith, within);
        clear = λ n lt. h.clear n (omega (arith, lt));
        none = λ n le lt. ⊎_elim
            (λ before. let same : m - 1 ≡ n = omega (arith, le, before, some) in subst (λ (i : ℕ). ¬ IsSomeOpen settings picture kind i) same shut)
            (λ ge. h.none n ge lt)
            (cases_lt n m);
      }

  module _ (ahead : IsHorizon settings horizon) where
    pub last_at : (m : ℕ) → 0 < m → IsTriedDownTo m → IsSomeOpen settings picture kind (m - 1) → IsLastTime settings picture kind (Some (m - 1))
    last_at m some h free =
        let within = h.within in
        record {
          horizon = horizon;
          ahead = ahead;
          last = record { before = omega (arith, within, some); some = free; none_later = λ n lt before. h.none n (omega (arith, lt)) before };
        }

    pub no_last : (m : ℕ) → m ≤ 0 → IsTriedDownTo m → IsLastTime settings picture kind None
    no_last m none h = record { horizon = horizon; ahead = ahead; last = λ n lt. h.none n (omega (arith, none)) lt }

-- ---- there are no two
module _ (settings : Settings) (picture : Picture) (kind : Kind) where
  module _ (horizon : ℕ) where
    no_later : (m n : ℕ) → IsLast settings picture kind horizon m → IsLast settings picture kind horizon n → m < n → ⊥
    no_later m n h k lt = h.none_later n lt k.before k.some

    one_last : (m n : ℕ) → IsLast settings picture kind horizon m → IsLast settings picture kind horizon n → m ≡ n
    one_last m n h k = ⊎_elim
        (λ lt. absurd (no_later m n h k lt))
        (λ ge. ⊎_elim (λ gt. absurd (no_later n m k h gt)) (λ le. omega (arith, ge, le)) (cases_lt n m))
        (cases_lt m n)

    -- the last time below the horizon
    abbrev IsLastBelow : Option ℕ → Type 0
    IsLastBelow found = MatchOption found ((n : ℕ) → n < horizon → ¬ IsSomeOpen settings picture kind n) (IsLast settings picture kind horizon)

    same_last : (x y : Option ℕ) → IsLastBelow x → IsLastBelow y → x ≡ y
    same_last None None h k = refl
    same_last None (Some n) h k = absurd (h n k.before k.some)
    same_last (Some m) None h k = absurd (k m h.before h.some)
    same_last (Some m) (Some n) h k = ap (λ (i : ℕ). Some i) (one_last m n h k)

  pub last_only : (x y : Option ℕ) → IsLastTime settings picture kind x → IsLastTime settings picture kind y → x ≡ y
  last_only x y h k =
      let same : k.horizon ≡ h.horizon = horizon_only settings k.horizon h.horizon k.ahead h.ahead in
      same_last h.horizon x y h.last (subst (λ (n : ℕ). IsLastBelow n y) same k.last)
