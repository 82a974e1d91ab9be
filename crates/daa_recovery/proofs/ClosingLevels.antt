-- Levels that close, gone through from `resolve` on, and the aircraft of the moment, from the first on.
use Rattle.std.proofs.Common.{◌≡◌, ℕ, ◌+◌, ◌<◌, ◌≤◌, pos, ◌≤ℤ◌, Some, length, sym, subst, ◌∙◌, arith, ⊎_elim}
use Rattle.std.proofs.lemmas.Bool.{cases_lt}
use Rattle.std.proofs.lemmas.Int.{ints}
use Rattle.std.specs.Prelude.{slice_get}
use Rattle.std.proofs.lemmas.Option.{same_Some, slice_get_within}
use Rattle.daa_config.specs.declared.candidate.Candidate.{Candidate}
use Rattle.daa_config.specs.declared.level.Level.{Level}
use Rattle.daa_config.specs.Settings.{IsLevelAt}
use Rattle.daa_state.specs.declared.word.Traffic.{Traffic}
use Rattle.daa_state.specs.Picture.{aircraft_of}
use Rattle.daa_legs.specs.Runs.{MeetsBetween}
use Rattle.daa_legs.proofs.AtLevel.{one_level}
use Rattle.daa_recovery.specs.OutlookState.{Closes, OutlookState}
use Rattle.daa_recovery.specs.Recovery.{IsClosedFrom}
use Rattle.daa_recovery.proofs.Horizons.{level_within}

pub closed_at : (p : OutlookState) (candidate : Candidate) (m : ℕ) (aircraft : Traffic) (l : ℕ) (level : Level) → IsLevelAt p.settings l level → p.settings.numbers.resolve ≤ℤ pos l
    → MeetsBetween p.settings p.picture.own candidate aircraft level.volume m level.lookahead → IsClosedFrom p candidate m aircraft
closed_at p candidate m aircraft l level at from meets = record {
  number = l;
  level = level;
  closes = record { there = at; from = from };
  leg = meets.leg;
  before = meets.before;
  violates = (meets.not_before, meets.violates);
}

module _ (p : OutlookState) where
  -- none of the levels below l that close is such
  abbrev pub IsNoLevel : (Level → Type 0) → ℕ → Type 0
  IsNoLevel Is l = (j : ℕ) (level : Level) → j < l → Closes p.settings j level → ¬ Is level

  pub levels_first : (Is : Level → Type 0) (l : ℕ) → pos l ≡ p.settings.numbers.resolve → IsNoLevel Is l
  levels_first Is l e j level lt closes = let f = closes.from in absurd (omega (arith, ints, e, f, lt))

  pub levels_more : (Is : Level → Type 0) (l : ℕ) (level : Level) → IsLevelAt p.settings l level → ¬ Is level → IsNoLevel Is l → IsNoLevel Is (l + 1)
  levels_more Is l level at none h j other lt closes = ⊎_elim
      (λ before. h j other before closes)
      (λ ge is.
      let same : j ≡ l = omega (arith, lt, ge) in
      let one = one_level p.settings l other level (subst (λ (i : ℕ). IsLevelAt p.settings i other) same closes.there) at in
      none (subst (λ (x : Level). Is x) one is))
      (cases_lt j l)

  pub levels_all : (Is : Level → Type 0) (l : ℕ) → length p.settings.levels < l → IsNoLevel Is l → (j : ℕ) (level : Level) → Closes p.settings j level → ¬ Is level
  levels_all Is l h none j level closes = let w = level_within p.settings j level closes.there in none j level (omega (arith, w, h)) closes

  -- ---- aircraft by aircraft

  -- none of the first n aircraft is such
  abbrev pub IsNoAircraft : (Traffic → Type 0) → ℕ → Type 0
  IsNoAircraft Is n = (i : ℕ) (aircraft : Traffic) → i < n → slice_get (aircraft_of p.picture) i ≡ Some aircraft → ¬ Is aircraft

  pub aircraft_first : (Is : Traffic → Type 0) → IsNoAircraft Is 0
  aircraft_first Is i aircraft lt there = absurd (omega (arith, lt))

  pub aircraft_more : (Is : Traffic → Type 0) (n : ℕ) (here : Traffic) → slice_get (aircraft_of p.picture) n ≡ Some here → ¬ Is here → IsNoAircraft Is n → IsNoAircraft Is (n + 1)
  aircraft_more Is n here there none h i aircraft lt e = ⊎_elim
      (λ before. h i aircraft before e)
      (λ ge is.
      let same : i ≡ n = omega (arith, lt, ge) in
      let at : slice_get (aircraft_of p.picture) n ≡ Some aircraft = subst (λ (j : ℕ). slice_get (aircraft_of p.picture) j ≡ Some aircraft) same e in
      none (subst (λ (x : Traffic). Is x) (same_Some aircraft here (sym at ∙ there)) is))
      (cases_lt i n)

  pub aircraft_all : (Is : Traffic → Type 0) (n : ℕ) → length (aircraft_of p.picture) ≤ n → IsNoAircraft Is n
      → (i : ℕ) (aircraft : Traffic) → slice_get (aircraft_of p.picture) i ≡ Some aircraft → ¬ Is aircraft
  aircraft_all Is n all h i aircraft e = let w = slice_get_within (aircraft_of p.picture) i aircraft e in h i aircraft (omega (arith, w, all)) e
