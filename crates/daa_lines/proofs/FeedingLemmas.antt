-- How many bytes of a piece are taken, byte by byte.
use Rattle.std.proofs.Common.{◌≡◌, ◌<◌, ◌+◌, ◌==◌, ℕ, Bool, true, false, [], ◌∷◌, ◌||◌, ◌∙◌, drop, get_or, length, refl, ap, arith, length-append}
use Rattle.std.proofs.lemmas.List.{drop_more}
use Rattle.std.proofs.lemmas.Bool.Decides.{nat_tests}
use Rattle.std.proofs.lemmas.Bool.{or_parts}
use Rattle.daa_lines.specs.LinesOf.{Bytes, line_feed, long_length}
use Rattle.daa_lines.specs.LinesState.{LinesState, is_standing}
use Rattle.daa_lines.specs.Inside.LinesState.{IsSized}
use Rattle.daa_lines.specs.Feeding.{bytes_taken}
use Rattle.daa_lines.specs.Inside.Pushing.{after_byte, at_open, at_stage, is_last}
use Rattle.daa_lines.specs.declared.lines.Stage.{Stage}
use Rattle.daa_lines.specs.declared.lines.Stage.TheVariants.{Open, Whole, Long, Skipping}

at_feed : (stage : Stage) (line : Bytes) (b : ℕ) (rest : Bytes) → is_standing stage ≡ false → IsSized stage line → (b == line_feed) ≡ true
    → bytes_taken stage line (b ∷ rest) ≡ 1
at_feed Open line b rest free size feed = rw feed (omega (arith, size))
at_feed Skipping line b rest free size feed = rw feed refl
at_feed Whole line b rest free size feed = cc
at_feed Long line b rest free size feed = cc

full_open : (line : Bytes) (b : ℕ) (rest : Bytes) (full : Bool) → (length line + 1 == long_length) ≡ full → (b == line_feed) ≡ false
    → is_standing (at_open line b).1 ≡ true → bytes_taken Open line (b ∷ rest) ≡ 1
full_open line b rest true full other stood =
    let size : length line + 1 ≡ long_length = grind (arith, nat_tests) in
    rw other (omega arith)
full_open line b rest false room other stood = absurd (cc (rw (other, room) at stood))

at_full : (stage : Stage) (line : Bytes) (b : ℕ) (rest : Bytes) → is_standing stage ≡ false → (b == line_feed) ≡ false
    → is_standing (at_stage stage line b).1 ≡ true → bytes_taken stage line (b ∷ rest) ≡ 1
at_full Open line b rest free other stood = full_open line b rest _ refl other stood
at_full Skipping line b rest free other stood = absurd (cc (rw other at stood))
at_full Whole line b rest free other stood = cc
at_full Long line b rest free other stood = cc

at_last : (c : LinesState) (b : ℕ) (rest : Bytes) (feed : Bool) → (b == line_feed) ≡ feed → is_standing c.stage ≡ false → IsSized c.stage c.line
    → (feed || is_standing (at_stage c.stage c.line b).1) ≡ true → bytes_taken c.stage c.line (b ∷ rest) ≡ 1
at_last c b rest true e free size last = at_feed c.stage c.line b rest free size e
at_last c b rest false e free size last = at_full c.stage c.line b rest free e last

more_open : (line : Bytes) (b : ℕ) (rest : Bytes) (full : Bool) → (length line + 1 == long_length) ≡ full → (b == line_feed) ≡ false → length line < long_length
    → is_standing (at_open line b).1 ≡ false → bytes_taken Open line (b ∷ rest) ≡ 1 + bytes_taken (at_open line b).1 (at_open line b).0 rest
more_open line b rest true full other short free = absurd (cc (rw (other, full) at free))
more_open line b rest false room other short free =
    let size : length line + 1 < long_length = grind (arith, nat_tests) in
    rw (other, room) (omega (arith, length-append line (b ∷ [])))

at_more : (stage : Stage) (line : Bytes) (b : ℕ) (rest : Bytes) → is_standing stage ≡ false → IsSized stage line → (b == line_feed) ≡ false
    → is_standing (at_stage stage line b).1 ≡ false
    → bytes_taken stage line (b ∷ rest) ≡ 1 + bytes_taken (at_stage stage line b).1 (at_stage stage line b).0 rest
at_more Open line b rest free size other going = more_open line b rest _ refl other size going
at_more Skipping line b rest free size other going = rw other refl
at_more Whole line b rest free size other going = cc
at_more Long line b rest free size other going = cc

-- the byte at this place, and then the others
split_taken : (c : LinesState) (piece : Bytes) (i whole : ℕ) → i < length piece → whole ≡ i + bytes_taken c.stage c.line (drop i piece)
    → whole ≡ i + bytes_taken c.stage c.line (get_or piece i 0 ∷ drop (i + 1) piece)
split_taken c piece i whole within sum = sum ∙ ap (λ (p : Bytes). i + bytes_taken c.stage c.line p) (drop_more piece i 0 within)

-- after the last byte no more is taken
pub taken_last : (c : LinesState) (piece : Bytes) (i whole : ℕ) → i < length piece → is_standing c.stage ≡ false → IsSized c.stage c.line
    → is_last c (get_or piece i 0) ≡ true → whole ≡ i + bytes_taken c.stage c.line (drop i piece) → i + 1 ≡ whole
taken_last c piece i whole within free size last sum =
    let one : bytes_taken c.stage c.line (get_or piece i 0 ∷ drop (i + 1) piece) ≡ 1 = at_last c _ _ _ refl free size last in
    omega (arith, split_taken c piece i whole within sum, one)

-- after any other no line stands, and as many are taken as of the rest
pub taken_more : (c next : LinesState) (piece : Bytes) (i whole : ℕ) → i < length piece → next ≡ after_byte c (get_or piece i 0)
    → is_standing c.stage ≡ false → IsSized c.stage c.line → is_last c (get_or piece i 0) ≡ false
    → whole ≡ i + bytes_taken c.stage c.line (drop i piece)
    → (is_standing next.stage ≡ false) × (whole ≡ i + 1 + bytes_taken next.stage next.line (drop (i + 1) piece))
unfolding after_byte
taken_more c next piece i whole within value free size last sum =
    let parts = or_parts _ _ last in
    let more = at_more c.stage c.line (get_or piece i 0) (drop (i + 1) piece) free size parts.0 parts.1 in
    rw value (parts.1, omega (arith, split_taken c piece i whole within sum, more))
