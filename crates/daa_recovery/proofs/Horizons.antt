-- The greatest lookahead of the levels that close.
use Rattle.std.proofs.Common.{◌≡◌, ℕ, ◌+◌, ◌-◌, ◌≤◌, pos, ◌≤ℤ◌, length, max, refl, subst, ap, arith, ⊎_elim}
use Rattle.std.proofs.lemmas.Bool.{cases_lt}
use Rattle.std.proofs.lemmas.Int.{ints}
use Rattle.std.proofs.lemmas.Option.{slice_get_within}
use Rattle.daa_config.specs.declared.level.Level.{Level}
use Rattle.daa_config.specs.Settings.{Settings, IsAccepted, IsLevelAt}
use Rattle.daa_legs.proofs.AtLevel.{one_level}
use Rattle.daa_recovery.specs.OutlookState.{Closes, IsHorizon}

-- the greatest lookahead of the levels that close up to the number last
pub record IsHorizonUpTo (settings : Settings) (last m : ℕ) : Type 0 where
  pub number : ℕ
  pub level : Level
  pub closes : Closes settings number level
  pub reached : level.lookahead ≡ m
  pub most : (l : ℕ) (other : Level) → l ≤ last → Closes settings l other → other.lookahead ≤ m

module _ (settings : Settings) where
  -- the first of them alone
  pub horizon_first : (first : ℕ) (level : Level) → pos first ≡ settings.numbers.resolve → IsLevelAt settings first level → IsHorizonUpTo settings first level.lookahead
  horizon_first first level e at = record {
    number = first;
    level = level;
    closes = record { there = at; from = omega (arith, ints, e) };
    reached = refl;
    most = λ l other le closes. alone l other le closes;
  }
    where
      alone : (l : ℕ) (other : Level) → l ≤ first → Closes settings l other → other.lookahead ≤ level.lookahead
      alone l other le closes =
          let f = closes.from in
          let same : l ≡ first = omega (arith, ints, e, f, le) in
          let one = one_level settings first other level (subst (λ (i : ℕ). IsLevelAt settings i other) same closes.there) at in
          omega (arith, ap (λ (x : Level). x.lookahead) one)

  -- one more
  pub horizon_more : (last m n : ℕ) (level : Level) → settings.numbers.resolve ≤ℤ pos (last + 1) → IsLevelAt settings (last + 1) level → n ≡ max m level.lookahead
      → IsHorizonUpTo settings last m → IsHorizonUpTo settings (last + 1) n
  horizon_more last m n level from at e h = ⊎_elim
      (λ lt. record {
        number = last + 1;
        level = level;
        closes = record { there = at; from = from };
        reached = omega (arith, e, lt);
        most = λ l other le closes. below n (omega (arith, e)) (omega (arith, e)) l other le closes;
      })
      (λ ge. record {
        number = h.number;
        level = h.level;
        closes = h.closes;
        reached = omega (arith, e, ge, h.reached);
        most = λ l other le closes. below n (omega (arith, e)) (omega (arith, e)) l other le closes;
      })
      (cases_lt m level.lookahead)
    where
      below : (n : ℕ) → m ≤ n → level.lookahead ≤ n → (l : ℕ) (other : Level) → l ≤ last + 1 → Closes settings l other → other.lookahead ≤ n
      below n a b l other le closes = ⊎_elim
          (λ lt. let k = h.most l other (omega (arith, lt)) closes in omega (arith, k, a))
          (λ ge.
          let same : l ≡ last + 1 = omega (arith, le, ge) in
          let one = one_level settings (last + 1) other level (subst (λ (i : ℕ). IsLevelAt settings i other) same closes.there) at in
          omega (arith, ap (λ (x : Level). x.lookahead) one, b))
          (cases_lt l (last + 1))

  pub level_within : (l : ℕ) (level : Level) → IsLevelAt settings l level → l ≤ length settings.levels
  level_within l level at =
      let one = at.numbered in
      let w = slice_get_within settings.levels (l - 1) level at.there in omega (arith, one, w)

  -- all of them
  pub horizon_all : (last m : ℕ) → length settings.levels ≤ last → IsHorizonUpTo settings last m → IsHorizon settings m
  horizon_all last m h u = record {
    number = u.number;
    level = u.level;
    closes = u.closes;
    reached = u.reached;
    most = λ l other closes. let w = level_within l other closes.there in u.most l other (omega (arith, w, h)) closes;
  }

  pub horizon_short : (m : ℕ) → IsAccepted settings → IsHorizon settings m → m ≤ 180
  horizon_short m a h = let r = (a.level h.number h.level h.closes.there).lookahead_most in omega (arith, r, h.reached)

  -- there is one, and no other
  pub horizon_only : (m n : ℕ) → IsHorizon settings m → IsHorizon settings n → m ≡ n
  horizon_only m n h k =
      let a = h.most k.number k.level k.closes in
      let b = k.most h.number h.level h.closes in
      omega (arith, a, b, h.reached, k.reached)
