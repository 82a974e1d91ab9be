-- How the end of the input keeps which bytes went in and which lines came out.
use Rattle.std.proofs.Common.{◌≡◌, ◌≤◌, ℕ, Bool, true, false, List, [], ◌∷◌, ◌++◌, length, refl, sym, ap, ap₂, ◌∙◌, arith, append-nil, nat_le, subst, if◌then◌else◌}
use Rattle.std.proofs.lemmas.Bool.{false≢true}
use Rattle.std.proofs.lemmas.Bool.Decides.{nat_tests}
use Rattle.daa_lines.specs.LinesOf.{Bytes, long_length, shown}
use Rattle.daa_lines.specs.LinesState.{LinesState}
use Rattle.daa_lines.specs.Inside.LinesState.{IsSized}
use Rattle.daa_lines.specs.Ending.{after_end, stage_at_end}
use Rattle.daa_lines.specs.ComesFrom.{ComesFrom, standing}
use Rattle.daa_lines.specs.declared.lines.Stage.{Stage}
use Rattle.daa_lines.specs.declared.lines.Stage.TheVariants.{Open, Whole, Long, Skipping}
use Rattle.daa_lines.proofs.CutLemmas.{cut, cut_at, last_line, lines_of-cut}
use Rattle.daa_lines.proofs.PushingLemmas.{Lasts, lasts}
use Rattle.daa_lines.proofs.ShownLemmas.{short_rest, shown-append, whole_line}

same_last : (rest : Bytes) → long_length ≤ length rest → last_line true rest ≡ last_line false rest
same_last rest h =
    let long : nat_le long_length (length rest) ≡ true = grind (arith, nat_tests) in
    let some : nat_le 1 (length rest) ≡ true = grind (arith, nat_tests) in
    rw (long, some) refl

begun_last : (byte : ℕ) (line : Bytes) → last_line true (byte ∷ line) ≡ (byte ∷ line) ∷ []
begun_last byte line =
    let some : nat_le 1 (length (byte ∷ line)) ≡ true = grind (arith, nat_tests) in
    rw some refl

ending : (done taken : List Bytes) (rest line : Bytes) (stage : Stage) → IsSized stage line → Lasts (cut_at done rest) taken stage line
    → shown (done ++ last_line true rest) ≡ taken ++ standing (stage_at_end stage line) line
ending done taken rest [] Open size h = rw h.1 (rw h.1 at h.0)
ending done taken rest (byte ∷ line) Open size h =
    let before : shown done ≡ taken = sym (short_rest done (byte ∷ line) size) ∙ (rw h.1 at h.0) ∙ append-nil taken in
    rw (h.1, begun_last byte line) (shown-append done ((byte ∷ line) ∷ []) ∙ ap₂ (λ (x : List Bytes) (y : Bytes). x ++ y ∷ []) before (whole_line (byte ∷ line) (omega (arith, size))))
ending done taken rest line Whole size h = rw h.1 (rw h.1 at h.0)
ending done taken rest line Long size h =
    let long : long_length ≤ length rest = omega (arith, size, ap length h.1) in
    rw (same_last rest long) h.0
ending done taken rest line Skipping size h = rw (same_last rest h.1) h.0

if_true : (test : Bool) (a b : LinesState) → test ≡ true → (if test then a else b) ≡ a
if_true test a b h = rw h refl

ends : (bytes : Bytes) (taken : List Bytes) (c : LinesState) (ended : Bool) → c.ended ≡ ended → IsSized c.stage c.line
    → ComesFrom bytes taken c → ComesFrom bytes taken (after_end c)
ends bytes taken c true over size s = subst (ComesFrom bytes taken) (sym (if_true c.ended c _ over)) s
ends bytes taken c false going size s =
    let next : ComesFrom bytes taken (record c { ended = true; stage = stage_at_end c.stage c.line }) = record {
      fed = s.fed;
      number = s.number;
      lines = ap shown (lines_of-cut bytes true) ∙ ending (cut bytes).whole taken (cut bytes).rest c.line c.stage size (lasts bytes taken c going s);
      rest = λ e. absurd (false≢true (sym e));
    } in
    rw going next

-- the input is over
pub comes-end : (bytes : Bytes) (taken : List Bytes) (c : LinesState) → IsSized c.stage c.line
    → ComesFrom bytes taken c → ComesFrom bytes taken (after_end c)
comes-end bytes taken c size s = ends bytes taken c _ refl size s
