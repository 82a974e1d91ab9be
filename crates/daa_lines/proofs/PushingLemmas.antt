-- How one byte keeps which bytes went in and which lines came out.
use Rattle.std.proofs.Common.{◌≡◌, ◌≤◌, ◌<◌, ◌+◌, ◌==◌, ℕ, Bool, true, false, cond, List, [], ◌∷◌, ◌++◌, length, take}
use Rattle.std.proofs.Common.{refl, sym, ap, ap₂, ◌∙◌, arith, length-append, append-nil, append_assoc, get_or, subst}
use Rattle.std.proofs.lemmas.List.{take-append-le, take_more}
use Rattle.std.proofs.lemmas.Bool.Decides.{nat_tests}
use Rattle.daa_lines.specs.LinesOf.{Bytes, line_feed, lines_of, long_length, shown}
use Rattle.daa_lines.specs.LinesState.{LinesState, is_standing}
use Rattle.daa_lines.specs.Inside.LinesState.{IsSized}
use Rattle.daa_lines.specs.Inside.Pushing.{after_byte, at_open, at_stage}
use Rattle.daa_lines.specs.ComesFrom.{ComesFrom, IsRest, standing}
use Rattle.daa_lines.specs.declared.lines.Stage.{Stage}
use Rattle.daa_lines.specs.declared.lines.Stage.TheVariants.{Open, Whole, Long, Skipping}
use Rattle.daa_lines.proofs.CutLemmas.{Cut, cut, cut_at, cut_more, cut-push, last_line, lines_of-cut, rest_in-cut}
use Rattle.daa_lines.proofs.ShownLemmas.{long_rest, short_rest, shown-append, whole_line}

-- what a byte makes of the lines so far
abbrev pub Lasts : Cut → List Bytes → Stage → Bytes → Type 0
Lasts p taken stage line = (shown (p.whole ++ last_line false p.rest) ≡ taken ++ standing stage line) × IsRest stage line p.rest

ends_open : (done taken : List Bytes) (line : Bytes) → length line < long_length → Lasts (cut_at done line) taken Open line → Lasts (cut_at (done ++ line ∷ []) []) taken Whole line
ends_open done taken line short h =
    let before : shown done ≡ taken = sym (short_rest done line short) ∙ h.0 ∙ append-nil taken in
    (short_rest (done ++ line ∷ []) [] (omega arith) ∙ shown-append done (line ∷ []) ∙ ap₂ (λ (x : List Bytes) (y : Bytes). x ++ y ∷ []) before (whole_line line (omega arith)), refl)

grows_open : (done taken : List Bytes) (line : Bytes) (b : ℕ) → length line + 1 < long_length
    → Lasts (cut_at done line) taken Open line → Lasts (cut_at done (line ++ b ∷ [])) taken Open (line ++ b ∷ [])
grows_open done taken line b short h =
    (short_rest done (line ++ b ∷ []) (omega (arith, length-append line (b ∷ []))) ∙ sym (short_rest done line (omega arith)) ∙ h.0, refl)

fills_open : (done taken : List Bytes) (line : Bytes) (b : ℕ) → length line + 1 ≡ long_length
    → Lasts (cut_at done line) taken Open line → Lasts (cut_at done (line ++ b ∷ [])) taken Long (line ++ b ∷ [])
fills_open done taken line b full h =
    let size : length (line ++ b ∷ []) ≡ long_length = omega (arith, length-append line (b ∷ [])) in
    let before : shown done ≡ taken = sym (short_rest done line (omega arith)) ∙ h.0 ∙ append-nil taken in
    (long_rest done (line ++ b ∷ []) (omega arith) ∙ ap₂ (λ (x : List Bytes) (y : Bytes). x ++ y ∷ []) before (whole_line (line ++ b ∷ []) (omega arith)), refl)

ends_skipping : (done taken : List Bytes) (rest : Bytes) → Lasts (cut_at done rest) taken Skipping [] → Lasts (cut_at (done ++ rest ∷ []) []) taken Open []
ends_skipping done taken rest h =
    (short_rest (done ++ rest ∷ []) [] (omega arith) ∙ shown-append done (rest ∷ []) ∙ sym (long_rest done rest h.1) ∙ h.0, refl)

grows_skipping : (done taken : List Bytes) (rest : Bytes) (b : ℕ) → Lasts (cut_at done rest) taken Skipping [] → Lasts (cut_at done (rest ++ b ∷ [])) taken Skipping []
grows_skipping done taken rest b h =
    let more : long_length ≤ length (rest ++ b ∷ []) = omega (arith, length-append rest (b ∷ []), h.1) in
    (long_rest done (rest ++ b ∷ []) more ∙ ap (λ (y : Bytes). shown done ++ y ∷ []) (take-append-le long_length rest (b ∷ []) h.1) ∙ sym (long_rest done rest h.1) ∙ h.0, more)

by_open : (done taken : List Bytes) (line : Bytes) (b : ℕ) (ends full : Bool) → (b == line_feed) ≡ ends → (length line + 1 == long_length) ≡ full → length line < long_length
    → Lasts (cut_at done line) taken Open line → Lasts (cut_more (cut_at done line) b) taken (at_open line b).1 (at_open line b).0
by_open done taken line b true full e f short h = rw e (ends_open done taken line short h)
by_open done taken line b false true e f short h = rw (e, f) (fills_open done taken line b (grind (arith, nat_tests)) h)
by_open done taken line b false false e f short h = rw (e, f) (grows_open done taken line b (grind (arith, nat_tests)) h)

by_skipping : (done taken : List Bytes) (rest : Bytes) (b : ℕ) (ends : Bool) → (b == line_feed) ≡ ends
    → Lasts (cut_at done rest) taken Skipping [] → Lasts (cut_more (cut_at done rest) b) taken (cond (b == line_feed) Open Skipping) []
by_skipping done taken rest b true e h = rw e (ends_skipping done taken rest h)
by_skipping done taken rest b false e h = rw e (grows_skipping done taken rest b h)

by_stage : (p : Cut) (taken : List Bytes) (stage : Stage) (line : Bytes) (b : ℕ) → is_standing stage ≡ false → IsSized stage line
    → Lasts p taken stage line → Lasts (cut_more p b) taken (at_stage stage line b).1 (at_stage stage line b).0
by_stage p taken Open line b free short h =
    subst (λ (l : Bytes). length l < long_length → Lasts p taken Open l → Lasts (cut_more p b) taken (at_open l b).1 (at_open l b).0)
    h.1 (by_open p.whole taken p.rest b _ _ refl refl) short h
by_stage p taken Skipping line b free size h = by_skipping p.whole taken p.rest b _ refl h
by_stage p taken Whole line b free size h = cc
by_stage p taken Long line b free size h = cc

-- the bytes that were fed, cut, while the input goes on
pub lasts : (bytes : Bytes) (taken : List Bytes) (c : LinesState) → c.ended ≡ false → ComesFrom bytes taken c → Lasts (cut bytes) taken c.stage c.line
lasts bytes taken c going s = (
  ap shown (sym (lines_of-cut bytes false)) ∙ ap (λ (e : Bool). shown (lines_of bytes e)) (sym going) ∙ s.lines,
  subst (IsRest c.stage c.line) (rest_in-cut bytes) (s.rest going),
)

-- one byte more
pub comes-push : (bytes : Bytes) (taken : List Bytes) (c : LinesState) (b : ℕ) → is_standing c.stage ≡ false → c.ended ≡ false → IsSized c.stage c.line
    → ComesFrom bytes taken c → ComesFrom (bytes ++ b ∷ []) taken (after_byte c b)
unfolding after_byte
comes-push bytes taken c b free going size s =
    let next = by_stage (cut bytes) taken c.stage c.line b free size (lasts bytes taken c going s) in
    record {
      fed = omega (arith, s.fed, length-append bytes (b ∷ []));
      number = s.number;
      lines = rw (going, lines_of-cut (bytes ++ b ∷ []) false, cut-push bytes b) next.0;
      rest = λ _. rw (rest_in-cut (bytes ++ b ∷ []), cut-push bytes b) next.1;
    }

-- one byte more of a piece
pub comes-fed : (bytes piece : Bytes) (taken : List Bytes) (c next : LinesState) (i : ℕ) → i < length piece → next ≡ after_byte c (get_or piece i 0)
    → is_standing c.stage ≡ false → c.ended ≡ false → IsSized c.stage c.line
    → ComesFrom (bytes ++ take i piece) taken c → ComesFrom (bytes ++ take (i + 1) piece) taken next
comes-fed bytes piece taken c next i within value free going size s =
    let more : bytes ++ take i piece ++ get_or piece i 0 ∷ [] ≡ bytes ++ take (i + 1) piece =
    append_assoc bytes (take i piece) _ ∙ ap (λ (r : Bytes). bytes ++ r) (sym (take_more piece i 0 within)) in
    let pushed : ComesFrom (bytes ++ take i piece ++ get_or piece i 0 ∷ []) taken next =
    rw value (comes-push (bytes ++ take i piece) taken c (get_or piece i 0) free going size s) in
    subst (λ (b : Bytes). ComesFrom b taken next) more pushed
