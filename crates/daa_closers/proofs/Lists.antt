-- Levels and aircraft that were tried one after the other.
use Rattle.std.proofs.Common.{◌≡◌, ◌≢◌, ◌↔◌, ℕ, ◌+◌, ◌-◌, ◌^◌, ◌<◌, ◌≤◌, List, length, Some, sym, subst, ap, ◌∙◌, arith, ⊎_elim}
use Rattle.std.proofs.lemmas.Bool.{cases_eq, cases_lt}
use Rattle.std.proofs.lemmas.Nat.Bits.{bit_at_or, bit_at-pow_same, bit_at-pow_other, bit_at-zero, bit_at-lt}
use Rattle.std.proofs.lemmas.Option.{same_Some, slice_get_within}
use Rattle.std.specs.Prelude.{slice_get, bit_or}
use Rattle.std.specs.Int.{bit_at}
use Rattle.daa_fixed.specs.Mask.{IsGreatestLevel}
use Rattle.daa_config.specs.declared.candidate.Candidate.{Candidate}
use Rattle.daa_config.specs.Settings.{Settings}
use Rattle.daa_state.specs.declared.word.Own.{Own}
use Rattle.daa_state.specs.declared.word.Picture.{Picture}
use Rattle.daa_state.specs.declared.word.Traffic.{Traffic}
use Rattle.daa_state.specs.Picture.{aircraft_of}
use Rattle.daa_legs.specs.Meeting.{Meets}
use Rattle.daa_closers.specs.Closers.{MeetsWithinLevels, MeetsSome, HasPlace, ArePlacesOf}

-- ---- levels, from the least on

module _ (settings : Settings) (own : Own) (candidate : Candidate) (aircraft : Traffic) (least : ℕ) where
  -- none of the levels from `least` on, below l, is met
  abbrev pub IsNoneBelow : ℕ → Type 0
  IsNoneBelow l = (j : ℕ) → least ≤ j → j < l → ¬ Meets settings own candidate aircraft j

  pub none_more : (l : ℕ) → ¬ Meets settings own candidate aircraft l → IsNoneBelow l → IsNoneBelow (l + 1)
  none_more l here h j from lt m = ⊎_elim
      (λ before. h j from before m)
      (λ ge. here (subst (Meets settings own candidate aircraft) (omega (arith, lt, ge)) m))
      (cases_lt j l)

  pub none_all : (l greatest : ℕ) → greatest < l → IsNoneBelow l → ¬ MeetsWithinLevels settings own candidate least greatest aircraft
  none_all l greatest past h m = h m.l m.from (omega (arith, m.upto, past)) m.meets

-- ---- aircraft, from the first on

module _ (Holds : Traffic → Type 0) (aircraft : List Traffic) where
  -- the set has the places before n of which it holds, and none from n on
  pub record ArePlacesBelow (n places : ℕ) : Type 0 where
    pub each : (place : ℕ) (one : Traffic) → place < n → slice_get aircraft place ≡ Some one → HasPlace places place ↔ Holds one
    pub none_past : (place : ℕ) → n ≤ place → HasPlace places place → ⊥

  pub places_start : ArePlacesBelow 0 0
  places_start = record {
    each = λ place one lt. absurd (omega (arith, lt));
    none_past = λ place _ b. let z = bit_at-zero place in absurd (omega (arith, z, b));
  }

  set_same : (a l : ℕ) → bit_at (bit_or a (2 ^ l)) l ≡ 1
  set_same a l = omega (arith, bit_at_or a (2 ^ l) l, bit_at-pow_same l, bit_at-lt a l)

  set_other : (a l j : ℕ) → j ≢ l → bit_at (bit_or a (2 ^ l)) j ≡ bit_at a j
  set_other a l j n = omega (arith, bit_at_or a (2 ^ l) j, bit_at-pow_other l j n)

  same_one : (n place : ℕ) (here one : Traffic) → place ≡ n → slice_get aircraft n ≡ Some here → slice_get aircraft place ≡ Some one → here ≡ one
  same_one n place here one e there at = same_Some here one (sym there ∙ subst (λ (j : ℕ). slice_get aircraft j ≡ Some one) e at)

  pub places_set : (n places : ℕ) (here : Traffic) → slice_get aircraft n ≡ Some here → Holds here → ArePlacesBelow n places
      → ArePlacesBelow (n + 1) (bit_or places (2 ^ n))
  places_set n places here there holds h = record {
    each = λ place one lt at. ⊎_elim
        (λ e. (
          (λ _. subst Holds (same_one n place here one e there at) holds),
          (λ _. ap (bit_at (bit_or places (2 ^ n))) e ∙ set_same places n),
        ))
        (λ apart. let o = set_other places n place apart in let is = h.each place one (before n place lt apart) at in
        ((λ b. is.0 (sym o ∙ b)), (λ x. o ∙ is.1 x)))
        (cases_eq place n);
    none_past = λ place past b.
        let o = set_other places n place (λ e. absurd (omega (arith, past, e))) in h.none_past place (omega (arith, past)) (sym o ∙ b);
  }
    where
      before : (n place : ℕ) → place < n + 1 → (place ≡ n → ⊥) → place < n
      before n place lt apart = ⊎_elim (λ x. x) (λ ge. absurd (apart (omega (arith, lt, ge)))) (cases_lt place n)

  pub places_keep : (n places : ℕ) (here : Traffic) → slice_get aircraft n ≡ Some here → ¬ Holds here → ArePlacesBelow n places → ArePlacesBelow (n + 1) places
  places_keep n places here there out h = record {
    each = λ place one lt at. ⊎_elim
        (λ before. h.each place one before at)
        (λ ge. let e : place ≡ n = omega (arith, lt, ge) in (
          (λ b. absurd (h.none_past place ge b)),
          (λ x. absurd (out (subst Holds (sym (same_one n place here one e there at)) x))),
        ))
        (cases_lt place n);
    none_past = λ place past. h.none_past place (omega (arith, past));
  }

  pub places_all : (n places : ℕ) → length aircraft ≡ n → ArePlacesBelow n places → ArePlacesOf Holds aircraft places
  places_all n places all h = record {
    each = λ place one at. let w = slice_get_within aircraft place one at in h.each place one (omega (arith, w, all)) at;
    none_past = λ place past. h.none_past place (omega (arith, past, all));
  }

module _ (settings : Settings) (picture : Picture) (candidate : Candidate) (l : ℕ) where
  -- none of the first n aircraft is met
  abbrev pub IsNoneMet : ℕ → Type 0
  IsNoneMet n = (place : ℕ) (one : Traffic) → place < n → slice_get (aircraft_of picture) place ≡ Some one → ¬ Meets settings picture.own candidate one l

  pub met_none : (n : ℕ) (here : Traffic) → slice_get (aircraft_of picture) n ≡ Some here → ¬ Meets settings picture.own candidate here l → IsNoneMet n → IsNoneMet (n + 1)
  met_none n here there out h place one lt at m = ⊎_elim
      (λ before. h place one before at m)
      (λ ge. let e : place ≡ n = omega (arith, lt, ge) in
      out (subst (λ (x : Traffic). Meets settings picture.own candidate x l)
      (sym (same_Some here one (sym there ∙ subst (λ (j : ℕ). slice_get (aircraft_of picture) j ≡ Some one) e at))) m))
      (cases_lt place n)

  pub met_all : (n : ℕ) → length (aircraft_of picture) ≤ n → IsNoneMet n → ¬ MeetsSome settings picture candidate l
  met_all n all h m = let w = slice_get_within (aircraft_of picture) m.place m.aircraft m.there in
      h m.place m.aircraft (omega (arith, w, all)) m.there m.meets

-- ---- levels, from the first on

pub greatest_start : (Holds : ℕ → Type 0) → IsGreatestLevel Holds 0 0
greatest_start Holds = record { within = omega arith; holds = λ h. absurd (omega (arith, h)); none_above = λ j g k. absurd (omega (arith, g, k)) }

pub greatest_set : (Holds : ℕ → Type 0) (l shown : ℕ) → 1 ≤ l → Holds l → IsGreatestLevel Holds (l - 1) shown → IsGreatestLevel Holds (l + 1 - 1) l
greatest_set Holds l shown first here h = record { within = omega arith; holds = λ _. here; none_above = λ j g k. absurd (omega (arith, g, k)) }

pub greatest_keep : (Holds : ℕ → Type 0) (l shown : ℕ) → 1 ≤ l → ¬ Holds l → IsGreatestLevel Holds (l - 1) shown → IsGreatestLevel Holds (l + 1 - 1) shown
greatest_keep Holds l shown first out h = record {
  within = omega (arith, h.within);
  holds = h.holds;
  none_above = λ j g k p. ⊎_elim
      (λ e. out (subst Holds (sym e) p))
      (λ e. h.none_above j g (below j k e) p)
      (cases_eq l j);
}
  where
    below : (j : ℕ) → j ≤ l + 1 - 1 → (l ≡ j → ⊥) → j ≤ l - 1
    below j k e = ⊎_elim (λ x. omega (arith, x)) (λ x. absurd (e (omega (arith, k, x, first)))) (cases_lt j l)
