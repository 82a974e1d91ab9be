-- Masks with one level more: of one candidate, and of a stretch of them.
use Rattle.std.proofs.Common.{◌≡◌, ◌↔◌, ◌⊎◌, inl, inr, ℕ, ℤ, ◌+◌, ◌-◌, ◌<◌, ◌≤◌, ◌^◌, Bool, true, false, List, length, sym, subst, ap, ◌∙◌, arith, refl, ⊎_elim}
use Rattle.std.specs.Prelude.{IsTrue, bit_or, slice_get, slice_index, slice_index_or, Some}
use Rattle.std.proofs.Math.ListN.{set}
use Rattle.std.proofs.lemmas.Bool.{cases_eq, cases_lt}
use Rattle.std.proofs.lemmas.List.{get_or-set_same, get_or-set_other, length-set}
use Rattle.std.proofs.lemmas.Option.{same_Some, slice_get_within, slice_get-get_or}
use Rattle.daa_config.specs.declared.candidate.Candidate.{Candidate}
use Rattle.daa_config.specs.declared.candidate.Candidate.TheVariants.{Hold}
use Rattle.daa_config.specs.declared.kind.Kind.{Kind}
use Rattle.daa_config.specs.declared.kind.Kind.TheVariants.{Track}
use Rattle.daa_config.specs.declared.level.Level.{Level}
use Rattle.daa_config.specs.Candidates.{values_of, candidates_of, candidate_to, start_of}
use Rattle.daa_config.specs.Settings.{Settings, IsAccepted, IsCandidateInRange, IsLevelAt}
use Rattle.daa_config.proofs.GridLemmas.{value_there}
use Rattle.daa_config.proofs.CandidateLemmas.{candidate_at, hold_first, in_range-to, kind_within}
use Rattle.daa_state.specs.declared.word.Own.{Own}
use Rattle.daa_state.specs.declared.word.Traffic.{Traffic}
use Rattle.daa_legs.specs.Errors.{are_exact}
use Rattle.daa_legs.specs.Meeting.{MeetsWithin, Meets}
use Rattle.daa_fixed.specs.Mask.{HasLevel}
use Rattle.daa_legs.proofs.AtLevel.{meets_at, one_level}
use Rattle.daa_scan.specs.Adding.{AddsLevels}
use Rattle.daa_scan.specs.Inside.Encounter.{IsNestedAt}
use Rattle.daa_scan.specs.Inside.Marking.{MeetsListed, AreMarked, AreMasks, IsNumberOf}
use Rattle.daa_scan.specs.Inside.Nesting.{LiesWithin}
use Rattle.daa_scan.proofs.Masks.{add_start, add_set, add_keep, was_added}
use Rattle.daa_scan.proofs.NestedLevels.{meets_outer}

module _ (settings : Settings) (own : Own) (candidate : Candidate) (aircraft : Traffic) (l old mask : ℕ) (is : AddsLevels (Meets settings own candidate aircraft) (l - 1) old mask) where
  -- the level before is not there, and what meets this one meets that one
  pub none_nested : 1 ≤ l - 1 → (Meets settings own candidate aircraft l → Meets settings own candidate aircraft (l - 1)) → ¬ HasLevel mask (l - 1)
      → AddsLevels (Meets settings own candidate aircraft) l old mask
  none_nested one down clear = add_keep (Meets settings own candidate aircraft) l old mask is (λ m. absurd (clear (was_added (Meets settings own candidate aircraft) (l - 1) old mask is one (down m))))

  -- the level is there already
  pub there_already : HasLevel mask l → AddsLevels (Meets settings own candidate aircraft) l old mask
  there_already b = add_keep (Meets settings own candidate aircraft) l old mask is (λ m. b)

  module _ (level : Level) (at : IsLevelAt settings l level) where
    -- the level is tested
    pub one_more : (met : Bool) (new : ℕ) → IsTrue met ↔ MeetsWithin settings own candidate aircraft level.volume level.lookahead
        → (IsTrue met → new ≡ bit_or mask (2 ^ (l - 1))) → (met ≡ false → new ≡ mask) → AddsLevels (Meets settings own candidate aircraft) l old new
    one_more true new tests set keep = subst (λ (m : ℕ). AddsLevels (Meets settings own candidate aircraft) l old m) (sym (set refl))
        (add_set (Meets settings own candidate aircraft) l old mask at.numbered is ((meets_at settings own aircraft l level at candidate).0 (tests.0 refl)))
    one_more false new tests set keep = subst (λ (m : ℕ). AddsLevels (Meets settings own candidate aircraft) l old m) (sym (keep refl))
        (add_keep (Meets settings own candidate aircraft) l old mask is (λ m. let t = tests.1 ((meets_at settings own aircraft l level at candidate).1 m) in absurd (cc t)))

-- there is a level before one that is not the first
pub level_before : (settings : Settings) (l : ℕ) (level : Level) → IsLevelAt settings l level → 2 ≤ l → (outer : Level) × IsLevelAt settings (l - 1) outer
level_before settings l level at two =
    let w = slice_get_within settings.levels (l - 1) level at.there in
    (slice_index_or settings.levels (l - 1 - 1) level, record { numbered = omega (arith, two); there = slice_get-get_or settings.levels (l - 1 - 1) level (omega (arith, w)) })

-- what meets a level meets the one in which it lies
pub meets_before : (settings : Settings) (own : Own) (candidate : Candidate) (aircraft : Traffic) (l : ℕ) (level : Level) → IsLevelAt settings l level
    → IsNestedAt settings aircraft l level → Meets settings own candidate aircraft l → Meets settings own candidate aircraft (l - 1)
meets_before settings own candidate aircraft l level at nested m =
    let b = level_before settings l level at nested.some in
    (meets_at settings own aircraft (l - 1) b.0 b.1 candidate).0
    (meets_outer settings own candidate aircraft level b.0 nested.exact (nested.within b.0 b.1) ((meets_at settings own aircraft l level at candidate).1 m))

-- a test of the bounds that is not turned down
pub exact_else : (b exact : Bool) → b ≡ exact → IsTrue b → exact ≡ true
exact_else b exact e t = sym e ∙ t

-- and one that is
pub exact_not : (b exact : Bool) → b ≡ exact → b ≡ false → exact ≡ false
exact_not b exact e f = sym e ∙ f

-- a level lies within the one before it
pub nested_at : (settings : Settings) (aircraft : Traffic) (l : ℕ) (inner outer : Level) → are_exact aircraft.bounds ≡ true → 2 ≤ l → IsLevelAt settings l inner
    → IsLevelAt settings (l - 1) outer → LiesWithin inner outer → (level : Level) → IsLevelAt settings l level → IsNestedAt settings aircraft l level
nested_at settings aircraft l inner outer exact two a b within level at = record {
  exact = exact;
  some = two;
  within = λ other there. subst (λ (x : Level). LiesWithin x other) (one_level settings l inner level a at)
      (subst (λ (x : Level). LiesWithin inner x) (one_level settings (l - 1) outer other b there) within);
}

-- a candidate of a kind's part of the whole list goes to a value
pub of_kind : (k : Kind) (s : Settings) (index : ℕ) (candidate : Candidate) → IsAccepted s → start_of k s ≤ index → index < start_of k s + length (values_of k s)
    → slice_get (candidates_of s) index ≡ Some candidate
    → (z : ℤ) × (candidate ≡ candidate_to k z)
of_kind k s index candidate a h l there =
    let v = value_there k s (index - start_of k s) a (omega (arith, h, l)) in
    let back : start_of k s + (index - start_of k s) ≡ index = omega (arith, h) in
    (_, same_Some candidate _ (sym there ∙ ap (slice_get (candidates_of s)) (sym back) ∙ candidate_at k s (index - start_of k s) _ v.there))

-- and to one in range
pub of_kind_in_range : (k : Kind) (s : Settings) (index : ℕ) (candidate : Candidate) → IsAccepted s → start_of k s ≤ index → index < start_of k s + length (values_of k s)
    → slice_get (candidates_of s) index ≡ Some candidate
    → IsCandidateInRange candidate
of_kind_in_range k s index candidate a h l there =
    let v = value_there k s (index - start_of k s) a (omega (arith, h, l)) in
    let back : start_of k s + (index - start_of k s) ≡ index = omega (arith, h) in
    subst (λ (x : Candidate). IsCandidateInRange x) (sym (same_Some candidate _ (sym there ∙ ap (slice_get (candidates_of s)) (sym back) ∙ candidate_at k s
    (index - start_of k s) _ v.there))) (in_range-to k _ v.in_range)

-- there is one at each number of a kind
pub number_there : (k : Kind) (s : Settings) (index : ℕ) → IsNumberOf s k index → slice_get (candidates_of s) index ≡ Some (slice_index_or (candidates_of s) index Hold)
number_there k s index n = slice_get-get_or (candidates_of s) index Hold (omega (arith, n.before, kind_within k s))

-- the candidate at an index, where there is one
module _ (settings : Settings) (own : Own) (aircraft : Traffic) (index : ℕ) (candidate : Candidate) (listed : slice_get (candidates_of settings) index ≡ Some candidate) where
  of_listed : (l : ℕ) → MeetsListed settings own aircraft index l → Meets settings own candidate aircraft l
  of_listed l (other, there, m) = subst (λ (x : Candidate). Meets settings own x aircraft l) (same_Some other candidate (sym there ∙ listed)) m

  adds_of_listed : (l old mask : ℕ) → AddsLevels (MeetsListed settings own aircraft index) l old mask → AddsLevels (Meets settings own candidate aircraft) l old mask
  adds_of_listed l old mask h j one = let is = h j one in (
    (λ b. ⊎_elim (λ o. inl o) (λ (w, x). inr (w, of_listed j x)) (is.0 b)),
    (λ s. is.1 (⊎_elim (λ o. inl o) (λ (w, x). inr (w, (candidate, listed, x))) s)),
  )

  adds_listed : (l old mask : ℕ) → AddsLevels (Meets settings own candidate aircraft) l old mask → AddsLevels (MeetsListed settings own aircraft index) l old mask
  adds_listed l old mask h j one = let is = h j one in (
    (λ b. ⊎_elim (λ o. inl o) (λ (w, x). inr (w, (candidate, listed, x))) (is.0 b)),
    (λ s. is.1 (⊎_elim (λ o. inl o) (λ (w, x). inr (w, of_listed j x)) s)),
  )

  -- a step for the one is a step for the other
  pub adds_by : (l old mask new : ℕ) → (AddsLevels (Meets settings own candidate aircraft) (l - 1) old mask → AddsLevels (Meets settings own candidate aircraft) l old new)
      → AddsLevels (MeetsListed settings own aircraft index) (l - 1) old mask → AddsLevels (MeetsListed settings own aircraft index) l old new
  adds_by l old mask new step h = adds_listed l old new (step (adds_of_listed (l - 1) old mask h))

-- a mask to which nothing can be added by a test of level l: it is there already, or it lies within the one before, which is not there
abbrev pub IsClosed : Settings → Own → Traffic → (l mask : ℕ) → Type 0
IsClosed settings own aircraft l mask =
    HasLevel mask l ⊎ ((1 ≤ l - 1) × ((candidate : Candidate) → Meets settings own candidate aircraft l → Meets settings own candidate aircraft (l - 1)) × ¬ HasLevel mask (l - 1))

module _ (settings : Settings) (own : Own) (aircraft : Traffic) (first l : ℕ) (old masks : List ℕ) where
  pub marked_none : AreMasks settings own aircraft first (l - 1) old masks → AreMarked settings own aircraft first 0 l old masks
  marked_none h = record { done = λ j b d. absurd (omega (arith, d)); left = λ j b u. h j b }

  pub marked_all : (upto : ℕ) → length (candidates_of settings) ≤ upto → AreMarked settings own aircraft first upto l old masks → AreMasks settings own aircraft first l old masks
  marked_all upto whole h j b = ⊎_elim
      (λ before. h.done j b before)
      (λ past. add_keep (MeetsListed settings own aircraft (first + j)) l (slice_index old j) (slice_index masks j) (h.left j b past)
      (λ (candidate, there, m). let w = slice_get_within (candidates_of settings) (first + j) candidate there in absurd (omega (arith, w, whole, past))))
      (cases_lt (first + j) upto)

  -- no candidate lies between
  pub marked_on : (a b : ℕ) → ((j : ℕ) → j < length masks → first + j < b → first + j < a) → ((j : ℕ) → j < length masks → b ≤ first + j → a ≤ first + j)
      → AreMarked settings own aircraft first a l old masks → AreMarked settings own aircraft first b l old masks
  marked_on a b below above h = record { done = λ j k d. h.done j k (below j k d); left = λ j k u. h.left j k (above j k u) }

  -- the next of them
  pub marked_next : (j new : ℕ) → j < length masks
      → (AddsLevels (MeetsListed settings own aircraft (first + j)) (l - 1) (slice_index old j) (slice_index masks j)
      → AddsLevels (MeetsListed settings own aircraft (first + j)) l (slice_index old j) new)
      → AreMarked settings own aircraft first (first + j) l old masks → AreMarked settings own aircraft first (first + j + 1) l old (set masks j new)
  marked_next j new inside is h = record {
    done = λ i b d. ⊎_elim
        (λ e. subst (λ (k : ℕ). AddsLevels (MeetsListed settings own aircraft (first + k)) l (slice_index old k) (slice_index (set masks j new) k)) (sym e)
        (subst (λ (m : ℕ). AddsLevels (MeetsListed settings own aircraft (first + j)) l (slice_index old j) m) (sym (get_or-set_same masks j new 0 inside))
        (is (h.left j inside (omega arith)))))
        (λ n. subst (λ (m : ℕ). AddsLevels (MeetsListed settings own aircraft (first + i)) l (slice_index old i) m) (sym (other_place i n)) (h.done i (shorter i b) (before i n d)))
        (cases_eq i j);
    left = λ i b u. subst (λ (m : ℕ). AddsLevels (MeetsListed settings own aircraft (first + i)) (l - 1) (slice_index old i) m) (sym (other_place i (λ e. omega (arith, e, u))))
        (h.left i (shorter i b) (omega (arith, u)));
  }
    where
      other_place : (i : ℕ) → (i ≡ j → ⊥) → slice_index (set masks j new) i ≡ slice_index masks i
      other_place i n = get_or-set_other masks j i new 0 n

      shorter : (i : ℕ) → i < length (set masks j new) → i < length masks
      shorter i b = subst (λ (n : ℕ). i < n) (length-set masks j new) b

      before : (i : ℕ) → (i ≡ j → ⊥) → first + i < first + j + 1 → first + i < first + j
      before i n d = ⊎_elim (λ b. omega (arith, b)) (λ g. absurd (n (omega (arith, d, g)))) (cases_lt i j)

  -- a kind that is not met at all
  pub marked_past : (k : Kind) (level : Level) → IsAccepted settings → IsLevelAt settings l level → ((z : ℤ) → MeetsWithin settings own (candidate_to k z) aircraft level.volume level.lookahead → ⊥)
      → AreMarked settings own aircraft first (start_of k settings) l old masks → AreMarked settings own aircraft first (start_of k settings + length (values_of k settings)) l old masks
  marked_past k level a at never h = record {
    done = λ j b d. ⊎_elim
        (λ before. h.done j b before)
        (λ within. add_keep (MeetsListed settings own aircraft (first + j)) l (slice_index old j) (slice_index masks j) (h.left j b within)
        (λ (candidate, there, m). let o = of_kind k settings (first + j) candidate a within d there in
        absurd (never o.0 (subst (λ (x : Candidate). MeetsWithin settings own x aircraft level.volume level.lookahead) o.1 ((meets_at settings own aircraft l level at candidate).1 m)))))
        (cases_lt (first + j) (start_of k settings));
    left = λ j b u. h.left j b (omega (arith, u));
  }

  -- of these none is asked: its level is there already, or the level lies within the one before and that is not there
  pub marked_asked : (a b : ℕ) → a ≤ b
      → ((j : ℕ) → j < length masks → a ≤ first + j → first + j < b → IsClosed settings own aircraft l (slice_index masks j))
      → AreMarked settings own aircraft first a l old masks → AreMarked settings own aircraft first b l old masks
  marked_asked a b on closed h = record {
    done = λ j k d. ⊎_elim
        (λ before. h.done j k before)
        (λ within. ⊎_elim
        (λ there. add_keep (MeetsListed settings own aircraft (first + j)) l (slice_index old j) (slice_index masks j) (h.left j k within) (λ m. there))
        (λ (one, down, clear). add_keep (MeetsListed settings own aircraft (first + j)) l (slice_index old j) (slice_index masks j) (h.left j k within)
        (λ (candidate, there, m). absurd (clear (was_added (MeetsListed settings own aircraft (first + j)) (l - 1) (slice_index old j) (slice_index masks j) (h.left j k within) one
        (candidate, there, down candidate m)))))
        (closed j k within d))
        (cases_lt (first + j) a);
    left = λ j k u. h.left j k (omega (arith, on, u));
  }

pub track_first : (s : Settings) → 1 ≡ start_of Track s
unfolding start_of
track_first s = refl

pub hold_there : (s : Settings) (i : ℕ) → i ≡ 0 → slice_get (candidates_of s) i ≡ Some Hold
hold_there s i e = let t = track_first s in hold_first s i (omega (arith, e, t))

-- none yet
pub masks_start : (settings : Settings) (own : Own) (aircraft : Traffic) (first : ℕ) (masks : List ℕ) → AreMasks settings own aircraft first 0 masks masks
masks_start settings own aircraft first masks j b = add_start (MeetsListed settings own aircraft (first + j)) (slice_index masks j)
