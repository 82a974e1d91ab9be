-- Looks at one range, of which each finds fewer units than the one before it.
use Rattle.std.proofs.Common.{◌≡◌, ◌≢◌, ℕ, ◌+◌, ◌<◌, ◌≤◌, ⊎_elim, List, [], ◌∷◌, ◌++◌, get_or, sym, ap, ◌∙◌, subst, arith}
use Rattle.std.specs.List.{Contains}
use Rattle.std.proofs.lemmas.Bool.{cases_lt}
use Rattle.std.proofs.lemmas.List.Elements.{Contains-get_or, Contains-append_cases, Contains-push_cases}
use Rattle.daa_range.specs.Range.{RangeState, range_of, range_len}
use Rattle.daa_range.specs.Word.{packed, unpacked, upto_part}
use Rattle.daa_range.proofs.Words.{packed-unpacked, unpacked-in_order}
use Rattle.daa_pool.specs.declared.view.View.{View}
use Rattle.daa_pool.specs.declared.view.Look.{Look}
use Rattle.daa_pool.specs.Inside.View.{look}
use Rattle.daa_pool.specs.Inside.Steps.{IsHome}
use Rattle.daa_pool.specs.Claim.{GetsShorter}
use Rattle.daa_pool.specs.Inside.Tour.{InTurn, AreElsewhere}
use Rattle.daa_pool.proofs.Lists.{Contains-nil}
use Rattle.daa_pool.proofs.Rounds.{pairs_append}

-- each look found so many units at least
abbrev pub IsAtMost : ℕ → List Look → Type 0
IsAtMost units seen = (l : Look) → Contains seen l → units ≤ range_len (unpacked l.word)

pub at_most_one : (v : View) (word : ℕ) → IsAtMost (range_len (unpacked word)) (look v v.number word ∷ [])
at_most_one v word l h = ⊎_elim
    (λ t. absurd (Contains-nil l t))
    (λ e. subst (λ (x : Look). range_len (unpacked word) ≤ range_len (unpacked x.word)) e (omega arith))
    (Contains-push_cases [] (look v v.number word) l h)

pub at_most_more : (v : View) (word : ℕ) (seen : List Look) → IsAtMost (range_len v.bound) seen → range_len (unpacked word) < range_len v.bound
    → IsAtMost (range_len (unpacked word)) (seen ++ look v v.number word ∷ [])
at_most_more v word seen a fewer l h = ⊎_elim
    (λ t. let le = a l t in omega arith)
    (λ t. at_most_one v word l t)
    (Contains-append_cases seen (look v v.number word ∷ []) l h)

abbrev Fewer : ℕ → Look → Look → Type 0
Fewer n x y = x.worker ≡ n → y.worker ≡ n → range_len (unpacked y.word) < range_len (unpacked x.word)

pub shorter_one : (n : ℕ) (l : Look) → GetsShorter n (l ∷ [])
shorter_one n l i j d lt within = absurd (omega arith)

pub shorter_more : (n : ℕ) (v : View) (word : ℕ) (seen : List Look) → GetsShorter n seen → IsAtMost (range_len v.bound) seen → range_len (unpacked word) < range_len v.bound
    → GetsShorter n (seen ++ look v v.number word ∷ [])
shorter_more n v word seen s a fewer = pairs_append (Fewer n) seen (look v v.number word ∷ []) s (shorter_one n (look v v.number word)) (λ x y h k p q. ⊎_elim
    (λ t. absurd (Contains-nil y t))
    (λ e. subst (λ (z : Look). range_len (unpacked z.word) < range_len (unpacked x.word)) e (let le = a x h in omega arith))
    (Contains-push_cases [] (look v v.number word) y k))

-- looks elsewhere show nothing of the range
pub shorter_away : (n : ℕ) (seen : List Look) → AreElsewhere n seen → GetsShorter n seen
shorter_away n seen away i j d lt within p q = absurd (away (get_or seen i d) (Contains-get_or seen i d (omega arith)) p)

pub shorter_after : (n : ℕ) (xs ys : List Look) → GetsShorter n xs → AreElsewhere n ys → GetsShorter n (xs ++ ys)
shorter_after n xs ys s away = pairs_append (Fewer n) xs ys s (shorter_away n ys away) (λ x y h k p q. absurd (away y k q))

pub both_away : (n number workers : ℕ) (xs ys : List Look) → n ≡ number → InTurn (number + 1) workers xs → InTurn 0 number ys → AreElsewhere n (xs ++ ys)
both_away n number workers xs ys en a b l h e = ⊎_elim
    (λ t. let p = a.inside l t in let lo = p.0 in absurd (omega arith))
    (λ t. let p = b.inside l t in let hi = p.1 in absurd (omega arith))
    (Contains-append_cases xs ys l h)

-- what is found in the own range has fewer units than what was seen there, or is the same word
pub found_fewer : (v : View) (word : ℕ) → IsHome v word → word ≢ packed v.bound → range_len (unpacked word) < range_len v.bound
found_fewer v word h ne = ⊎_elim
    (λ lt. let order = h.in_order in let first = h.first in
    subst (λ (s : RangeState). range_len s < range_len v.bound) (sym (unpacked-in_order word h.in_order)) (omega arith))
    (λ ge. let up = h.upto in let last : upto_part word ≡ v.bound.upto = omega arith in
    absurd (ne (sym (packed-unpacked word h.in_order) ∙ ap packed (unpacked-in_order word h.in_order ∙ (λ i. range_of (h.first i) (last i))))))
    (cases_lt (upto_part word) v.bound.upto)
