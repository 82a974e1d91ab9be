-- Words that show a core, after one of them has changed; and how often units stand in lists.
use Rattle.std.proofs.Common.{◌≡◌, ◌≢◌, ℕ, ◌+◌, ◌^◌, ◌<◌, ◌≤◌, eqb, cond, List, [], ◌∷◌, ◌++◌, length, get_or, set}
use Rattle.std.proofs.Common.{slice_index, sym, ap, ◌∙◌, subst, arith, length-set, get_or-set_same, get_or-set_other}
use mathlib.Core.Logic.{dite}
use native.Mathlib.Decide.{ℕ_discrete}
use Rattle.std.proofs.lemmas.List.Sums.{sum_by-cons, sum_by_push}
use Rattle.std.proofs.lemmas.Bool.Decides.{nat_tests}
use Rattle.daa_range.specs.Range.{RangeState}
use Rattle.daa_range.specs.Word.{packed, unpacked, IsInOrder}
use Rattle.daa_range.proofs.Words.{first_part-packed, upto_part-packed, unpacked-packed}
use Rattle.daa_schedule.specs.CoreState.{CoreState, no_units, times_on}
use Rattle.daa_pool.specs.View.{times}
use Rattle.daa_pool.specs.Inside.Rule.{word_at, Shows}

pub packed_in_order : (r : RangeState) → r.first ≤ r.upto → r.upto < 2 ^ 32 → IsInOrder (packed r)
packed_in_order r le lt = let a = first_part-packed r lt in let b = upto_part-packed r lt in omega arith

-- a word that is this range, packed
pub word_is : (word : ℕ) (r : RangeState) → word ≡ packed r → r.first ≤ r.upto → r.upto < 2 ^ 32 → unpacked word ≡ r
word_is word r e le lt = ap unpacked e ∙ unpacked-packed r le lt

module _ (words : List ℕ) (workers : ℕ) (c : CoreState) (shows : Shows words workers c) where
  -- one range has changed, and its word with it
  pub shows_range : (n word : ℕ) (x : RangeState) (hands : List RangeState) → n < workers → IsInOrder word → x ≡ unpacked word
      → Shows (set words n word) workers (record c { ranges = set c.ranges n x; hands = hands })
  shows_range n word x hands known order is = let crew = shows.crew in let wide = shows.wide in record {
    wide = length-set words n word ∙ wide;
    crew = length-set c.ranges n x ∙ crew;
    ranges = λ m low. dite (ℕ_discrete m n)
        (λ e. (ap (λ (k : ℕ). get_or (set c.ranges n x) k no_units) e ∙ get_or-set_same c.ranges n x no_units (omega arith))
        ∙ (is ∙ ap unpacked (sym (ap (λ (k : ℕ). word_at (set words n word) k) e ∙ get_or-set_same words n word 0 (omega arith)))))
        (λ ne. get_or-set_other c.ranges n m x no_units ne ∙ (shows.ranges m low ∙ ap unpacked (sym (get_or-set_other words n m word 0 ne))));
    board = λ u low. shows.board u low ∙ sym (get_or-set_other words n (workers + u) word 0 (λ e. absurd (omega arith)));
    in_order = λ m low. dite (ℕ_discrete m n)
        (λ e. subst IsInOrder (sym (ap (λ (k : ℕ). word_at (set words n word) k) e ∙ get_or-set_same words n word 0 (omega arith))) order)
        (λ ne. subst IsInOrder (sym (get_or-set_other words n m word 0 ne)) (shows.in_order m low));
  }

  -- one unit's word has changed, and the board with it
  pub shows_board : (f word : ℕ) (hands : List RangeState) → f < length c.answers → length c.board ≡ length c.answers
      → Shows (set words (workers + f) word) workers (record c { hands = hands; board = set c.board f word })
  shows_board f word hands known long = let crew = shows.crew in let wide = shows.wide in record {
    wide = length-set words (workers + f) word ∙ wide;
    crew = crew;
    ranges = λ m low. shows.ranges m low ∙ ap unpacked (sym (get_or-set_other words (workers + f) m word 0 (λ e. absurd (omega arith))));
    board = λ u low. dite (ℕ_discrete u f)
        (λ e. (ap (λ (k : ℕ). slice_index (set c.board f word) k) e ∙ get_or-set_same c.board f word 0 (omega arith))
        ∙ sym (ap (λ (k : ℕ). word_at (set words (workers + f) word) (workers + k)) e ∙ get_or-set_same words (workers + f) word 0 (omega arith)))
        (λ ne. get_or-set_other c.board f u word 0 ne ∙ (shows.board u low ∙ sym (get_or-set_other words (workers + f) (workers + u) word 0 (λ e. ne (omega arith)))));
    in_order = λ m low. subst IsInOrder (sym (get_or-set_other words (workers + f) m word 0 (λ e. absurd (omega arith)))) (shows.in_order m low);
  }

pub times_push : (u : ℕ) (xs : List ℕ) (f : ℕ) → times u (xs ++ f ∷ []) ≡ times u xs + cond (eqb f u) 1 0
times_push u xs f = sum_by_push (λ (x : ℕ). cond (eqb x u) 1 0) xs f

pub times-cons : (u x : ℕ) (xs : List ℕ) → times u (x ∷ xs) ≡ cond (eqb x u) 1 0 + times u xs
times-cons u x xs = sum_by-cons (λ (x : ℕ). cond (eqb x u) 1 0) x xs

-- one unit more is settled: it was not on the board, and now it is
pub times_settle : (u f word : ℕ) (xs board : List ℕ) → f < length board → slice_index board f ≡ 0 → word ≢ 0
    → times u (xs ++ f ∷ []) + times_on u board ≡ times u xs + times_on u (set board f word)
times_settle u f word xs board low none real = let p = times_push u xs f in dite (ℕ_discrete u f)
    (λ e. let a : slice_index board u ≡ 0 = ap (λ (k : ℕ). slice_index board k) e ∙ none in
    let b : slice_index (set board f word) u ≡ word = ap (λ (k : ℕ). slice_index (set board f word) k) e ∙ get_or-set_same board f word 0 low in
    let a' : times_on u board ≡ 0 = ap (λ (x : ℕ). cond (eqb x 0) 0 1) a in
    let b' : times_on u (set board f word) ≡ 1 = ap (λ (x : ℕ). cond (eqb x 0) 0 1) b ∙ some word real in
    let h : ◌≡◌ {A = ℕ} (cond (eqb f u) 1 0) 1 = hit f u (sym e) in omega arith)
    (λ ne. let b : times_on u (set board f word) ≡ times_on u board = ap (λ (x : ℕ). cond (eqb x 0) 0 1) (get_or-set_other board f u word 0 ne) in
    let h : ◌≡◌ {A = ℕ} (cond (eqb f u) 1 0) 0 = miss f u (λ e. ne (sym e)) in omega arith)
  where
    some : (x : ℕ) → x ≢ 0 → times_on 0 (x ∷ []) ≡ 1
    some x n = grind (arith, nat_tests)

    hit : (a b : ℕ) → a ≡ b → ◌≡◌ {A = ℕ} (cond (eqb a b) 1 0) 1
    hit a b e = grind (arith, nat_tests)

    miss : (a b : ℕ) → a ≢ b → ◌≡◌ {A = ℕ} (cond (eqb a b) 1 0) 0
    miss a b n = grind (arith, nat_tests)
