-- Bytes that make an open line longer, taken together.
use Rattle.std.proofs.Common.{◌≡◌, ◌<◌, ◌≤◌, ◌+◌, ◌==◌, ℕ, zero, suc, false}
use Rattle.std.proofs.Common.{[], ◌∷◌, ◌++◌, List, take, drop, get_or, length, refl, sym, ap}
use Rattle.std.proofs.Common.{◌∙◌, arith, subst, append-nil, append_assoc, length-append}
use Rattle.std.specs.Prelude.{slice_index}
use Rattle.std.proofs.lemmas.List.{take_more, length-take}
use Rattle.std.proofs.lemmas.Bool.Decides.{nat_tests}
use Rattle.daa_lines.specs.LinesOf.{Bytes, line_feed, long_length}
use Rattle.daa_lines.specs.LinesState.{LinesState, is_standing}
use Rattle.daa_lines.specs.Inside.LinesState.{IsSized}
use Rattle.daa_lines.specs.Inside.Pushing.{after_byte, at_open, is_last}
use Rattle.daa_lines.specs.Feeding.{bytes_taken}
use Rattle.daa_lines.specs.ComesFrom.{ComesFrom}
use Rattle.daa_lines.specs.declared.lines.Stage.TheVariants.{Open}
use Rattle.daa_lines.proofs.FeedingLemmas.{taken_more}
use Rattle.daa_lines.proofs.PushingLemmas.{comes-fed}

-- the line with the first n bytes of the piece
abbrev pub grown : LinesState → Bytes → ℕ → LinesState
grown c piece n = record c { line = c.line ++ take n piece; fed = c.fed + n }

not_full : (m : ℕ) → m + 1 < long_length → (m + 1 == long_length) ≡ false
not_full m h = grind (arith, nat_tests)

-- a byte that does not end it and does not make it long
open_more : (line : Bytes) (b : ℕ) → (b == line_feed) ≡ false → length line + 1 < long_length → at_open line b ≡ (line ++ b ∷ [], Open)
open_more line b other short = rw (other, not_full (length line) short) refl

one_more : (c : LinesState) (b : ℕ) → c.stage ≡ Open → (b == line_feed) ≡ false → length c.line + 1 < long_length → after_byte c b ≡ record c { line = c.line ++ b ∷ []; fed = c.fed + 1 }
unfolding after_byte
one_more c b is_open other short = rw (is_open, open_more c.line b other short) refl

module _ (c : LinesState) (piece : Bytes) (is_open : c.stage ≡ Open) (going : c.ended ≡ false) where
  -- so many bytes were taken
  pub record Grows (n : ℕ) : Type 0 where
    pub taken : bytes_taken c.stage c.line piece ≡ n + bytes_taken c.stage (c.line ++ take n piece) (drop n piece)
    pub kept : (bytes : List ℕ) (taken : List (List ℕ)) → ComesFrom bytes taken c → ComesFrom (bytes ++ take n piece) taken (grown c piece n)

  none : Grows 0
  none = record {
    taken = let e = ap (λ (l : Bytes). bytes_taken c.stage l piece) (sym (append-nil c.line)) in e ∙ omega arith;
    kept = λ bytes taken s. subst (λ (b : Bytes). ComesFrom b taken (grown c piece 0)) (sym (append-nil bytes))
        (subst (λ (x : LinesState). ComesFrom bytes taken x) same s);
  }
    where
      same : c ≡ grown c piece 0
      same = let more : c.fed ≡ c.fed + 0 = omega arith in λ i. record c { line = sym (append-nil c.line) i; fed = more i }

  next : (n : ℕ) → n < length piece → length c.line + n + 1 < long_length → (slice_index piece n == line_feed) ≡ false → Grows n → Grows (n + 1)
  next n within short other h =
      let size : length (take n piece) ≡ n = let t = length-take n piece in omega (arith, t, within) in
      let long : length (c.line ++ take n piece) ≡ length c.line + n = length-append c.line (take n piece) ∙ ap (λ (m : ℕ). length c.line + m) size in
      let line : (c.line ++ take n piece) ++ slice_index piece n ∷ [] ≡ c.line ++ take (n + 1) piece =
      append_assoc c.line (take n piece) _ ∙ ap (λ (r : Bytes). c.line ++ r) (sym (take_more piece n 0 within)) in
      let fed : c.fed + n + 1 ≡ c.fed + (n + 1) = omega arith in
      let value : grown c piece (n + 1) ≡ after_byte (grown c piece n) (get_or piece n 0) =
      sym (one_more (grown c piece n) (slice_index piece n) is_open other (omega (arith, long, short)) ∙ (λ i. record c { line = line i; fed = fed i })) in
      let free : is_standing c.stage ≡ false = rw is_open refl in
      let sized : IsSized c.stage (c.line ++ take n piece) = rw is_open (omega (arith, long, short)) in
      let going_on : is_last (grown c piece n) (get_or piece n 0) ≡ false = rw (other, is_open, open_more (c.line ++ take n piece) (slice_index piece n) other (omega (arith, long, short))) refl in
      let more = taken_more (grown c piece n) (grown c piece (n + 1)) piece n (bytes_taken c.stage c.line piece) within value free sized going_on h.taken in
      record {
        taken = more.1;
        kept = λ bytes taken s. comes-fed bytes piece taken (grown c piece n) (grown c piece (n + 1)) n within value free going sized (h.kept bytes taken s);
      }

  pub grows : (n : ℕ) → n ≤ length piece → length c.line + n < long_length → ((j : ℕ) → j < n → (slice_index piece j == line_feed) ≡ false) → Grows n
  grows zero within short other = none
  grows (suc n) within short other =
      subst Grows up (next n (omega (arith, within)) (omega (arith, short)) (other n (omega arith))
      (grows n (omega (arith, within)) (omega (arith, short)) (λ j h. other j (omega (arith, h)))))
    where
      up : n + 1 ≡ suc n
      up = omega arith
