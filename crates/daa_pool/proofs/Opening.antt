-- The table as it is made, and the first seat told the answers.
use Rattle.std.proofs.Common.{◌≡◌, ◌≢◌, ℕ, zero, suc, ◌+◌, ◌-◌, ◌^◌, ◌<◌, inl, inr, ⊎_elim, false}
use Rattle.std.proofs.Common.{eqb, cond, List, [], ◌∷◌, length, set, replicate, sym, refl, ap}
use Rattle.std.proofs.Common.{◌∙◌, subst, arith, length-set, get_or-set_same, get_or-set_other}
use Rattle.std.proofs.lemmas.Bool.{true≢false}
use Rattle.std.proofs.lemmas.List.{set-get_or, length-replicate}
use mathlib.Core.Option.{Option, none, some, some-injective, some-ne-none}
use lib.ListN.{get_elem?}
use Rattle.atomic_table.specs.Table.{step, keeps, Allows}
use Rattle.daa_range.specs.Range.{range_of}
use Rattle.daa_range.specs.Word.{packed, unpacked, IsInOrder}
use Rattle.daa_schedule.specs.CoreState.{CoreState, no_units, range_at, opened}
use Rattle.daa_schedule.specs.Answers.{AreAnswers}
use Rattle.daa_schedule.proofs.Runs.{opened_good, same_at}
use Rattle.daa_pool.specs.declared.view.View.{View}
use Rattle.daa_pool.proofs.Lists.{Contains-nil}
use Rattle.daa_pool.proofs.History.{never_looked}
use Rattle.daa_pool.proofs.Words.{packed_in_order, word_is}
use Rattle.daa_pool.specs.declared.pool.Size.{Size}
use Rattle.daa_pool.specs.Inside.View.{blank, opener}
use Rattle.daa_pool.specs.Inside.Rule.{word_at, Shows, IsSeated, Ruled, Holds, opening_words}
use Rattle.daa_pool.specs.Inside.Steps.{Sat, begins}

module _ (workers units : ℕ) (answers : List ℕ) (some_workers : 0 < workers) (long : length answers ≡ units) (small : units < 2 ^ 32) (real : AreAnswers answers) where
  abbrev c : CoreState
  c = opened answers workers

  abbrev ws : List ℕ
  ws = opening_words workers units

  abbrev zeros : List ℕ
  zeros = replicate (workers + units) 0

  wide : length ws ≡ workers + units
  wide = length-set zeros 0 (packed (range_of 0 units)) ∙ length-replicate (workers + units) 0

  first_word : word_at ws 0 ≡ packed (range_of 0 units)
  first_word = let e = length-replicate {A = ℕ} (workers + units) 0 in get_or-set_same zeros 0 (packed (range_of 0 units)) 0 (omega arith)

  other_word : (i : ℕ) → i ≢ 0 → word_at ws i ≡ 0
  other_word i n = get_or-set_other zeros 0 i (packed (range_of 0 units)) 0 n ∙ same_at {A = ℕ} (workers + units) 0 i

  whole_word : unpacked (word_at ws 0) ≡ range_of 0 (length answers)
  whole_word = word_is (word_at ws 0) (range_of 0 units) first_word (omega arith) small ∙ ap (λ (n : ℕ). range_of 0 n) (sym long)

  ranges_shown : (w : ℕ) → range_at c w ≡ unpacked (word_at ws w)
  ranges_shown zero = sym whole_word
  ranges_shown (suc w) = same_at (workers - 1) no_units w ∙ ap unpacked (sym (other_word (suc w) (λ e. absurd (omega arith))))

  in_order : (w : ℕ) → IsInOrder (word_at ws w)
  in_order zero = subst IsInOrder (sym first_word) (packed_in_order (range_of 0 units) (omega arith) small)
  in_order (suc w) = subst IsInOrder (sym (other_word (suc w) (λ e. absurd (omega arith)))) (omega arith)

  shows : Shows ws workers c
  shows = record {
    wide = wide ∙ ap (λ (n : ℕ). workers + n) (sym long);
    crew = let e = length-replicate (workers - 1) no_units in omega arith;
    ranges = λ w low. ranges_shown w;
    board = λ u low. same_at {A = ℕ} (length answers) 0 u ∙ sym (other_word (workers + u) (λ e. absurd (omega arith)));
    in_order = λ w low. in_order w;
  }

  seated : IsSeated c [] workers 1 0 (λ n. 0) 0 (opener workers answers)
  seated = record {
    number = λ n h. ⊎_elim (λ t. let t' : 0 ≡ n = t in (omega arith, refl)) (λ h. absurd (Contains-nil h.0 h.1)) h;
    carries = λ _. (refl, refl);
    crew = refl;
    answers = refl;
    hand = same_at workers no_units 0;
    over = same_at workers false 0;
    part = record { moves = refl; looks = never_looked c [] 0 };
    joined = λ part h. absurd (Contains-nil part h);
    first = refl;
    upto = omega arith;
  }

  only : (i : ℕ) (v : View) → get_elem? (opener workers answers ∷ []) i ≡ some v → (i ≡ 0) × (opener workers answers ≡ v)
  only zero v e = (refl, some-injective (opener workers answers) v e)
  only (suc i) v e = absurd (some-ne-none v (sym e))

  pub opening_ruled : (homes : List (Option (Unit {0}))) → Ruled workers (record { words = ws; homes = homes; views = opener workers answers ∷ [] })
  opening_ruled homes = let g = opened_good answers workers some_workers real in record {
    core = c;
    made = 1;
    carrier = 0;
    holder = λ n. 0;
    shaped = g.0;
    whole = g.1;
    shows = shows;
    log = [];
    history = record { reached = refl; accepted_all = tt };
    fits = some_workers;
    held = λ n h. (opener workers answers, refl, refl, inl (let z : 0 ≡ n = omega arith in z));
    carried = (opener workers answers, refl, refl, refl);
    unmade = λ n a b. record { word = other_word n (λ e. absurd (omega arith)); hand = same_at workers no_units n; going = same_at workers false n; moves = refl };
    seats = λ j x e l. let t = only j x e in subst (λ (p : ℕ × View). IsSeated c [] workers 1 0 (λ n. 0) p.0 p.1) (λ i. (sym t.0 i, t.1 i)) seated;
    others = λ j x e l. let t = only j x e in absurd (true≢false (ap (λ (y : View). y.live) t.1 ∙ l));
    settled = λ u. sym (ap (λ (x : ℕ). cond (eqb x 0) 0 1) (same_at {A = ℕ} (length answers) 0 u));
  }

-- the first seat is told the answers
pub begin_allowed : (k : Size) (slots id : ℕ) (me : Sat) (answers : List ℕ) → me.0 ≡ blank → 0 < k.workers → length answers ≡ k.units → k.units < 2 ^ 32 → AreAnswers answers
    → Allows (Holds k) slots id me 0 (λ n. n) (begins k.workers answers (step slots 0 0 0 none) me)
begin_allowed k slots id me answers is some_workers long small real s (inl b) size at tiny = let w : View = opener k.workers answers in (
  w,
  keeps,
  tt,
  inr (subst (λ (t : List ℕ × List View). Ruled k.workers (record { words = t.0; homes = s.homes; views = t.1 })) (λ i. (words (i), views (i)))
      (opening_ruled k.workers k.units answers some_workers long small real s.homes)),
  (refl, refl),
)
  where
    words : opening_words k.workers k.units ≡ set s.words 0 (word_at s.words 0)
    words = sym b.words ∙ sym (set-get_or s.words 0 0)

    first : (i : ℕ) → get_elem? (blank ∷ []) i ≡ some me.0 → i ≡ 0
    first zero e = refl
    first (suc i) e = absurd (some-ne-none me.0 (sym e))

    views : opener k.workers answers ∷ [] ≡ set s.views id (opener k.workers answers)
    views = ap (λ (i : ℕ). set (blank ∷ []) i (opener k.workers answers)) (sym (first id (subst (λ (vs : List View). get_elem? vs id ≡ some me.0) b.views at)))
        ∙ ap (λ (vs : List View). set vs id (opener k.workers answers)) (sym b.views)
begin_allowed k slots id me answers is some_workers long small real s (inr r) size at tiny =
    absurd (true≢false (ap (λ (y : View). y.carries) (sym is ∙ r.others id me.0 at (ap (λ (y : View). y.live) is))))
