-- How a taking keeps which bytes went in and which lines came out, and which line is handed out.
use Rattle.std.proofs.Common.{◌≡◌, ◌<◌, ℕ, Bool, true, false, List, [], ◌∷◌, ◌++◌, length}
use Rattle.std.proofs.Common.{take, refl, sym, ap, ◌∙◌, arith, length-append, length-take}
use Rattle.std.proofs.Common.{append-nil, Bor, Option, None, Some, slice_get, option_map}
use Rattle.std.proofs.lemmas.List.{take_all}
use Rattle.std.proofs.lemmas.Option.{slice_get-map}
use Rattle.daa_lines.specs.LinesOf.{Bytes, lines_of, long_length}
use Rattle.daa_lines.specs.LinesState.{LinesState, is_standing}
use Rattle.daa_lines.specs.Inside.LinesState.{IsSized}
use Rattle.daa_lines.specs.Taking.{IsLineOf, after_taking}
use Rattle.daa_lines.specs.ComesFrom.{ComesFrom, standing}
use Rattle.daa_lines.specs.declared.lines.Stage.{Stage}
use Rattle.daa_lines.specs.declared.lines.Stage.TheVariants.{Open, Whole, Long, Skipping}
use Rattle.daa_lines.specs.declared.lines.InputLine.TheVariants as result

taking : (bytes : Bytes) (taken : List Bytes) (line : Bytes) (stage : Stage) (ended : Bool) (fed number : ℕ) → IsSized stage line
    → ComesFrom bytes taken (record { line = line; stage = stage; ended = ended; fed = fed; number = number })
    → ComesFrom bytes (taken ++ standing stage line) (after_taking (record { line = line; stage = stage; ended = ended; fed = fed; number = number }))
taking bytes taken line Open ended fed number size s =
    record { fed = s.fed; number = rw append-nil s.number; lines = rw (append-nil taken) s.lines; rest = s.rest }
taking bytes taken line Skipping ended fed number size s =
    record { fed = s.fed; number = rw append-nil s.number; lines = rw (append-nil taken) s.lines; rest = s.rest }
taking bytes taken line Whole ended fed number size s =
    record {
      fed = s.fed;
      number = omega (arith, s.number, length-append taken (line ∷ []));
      lines = s.lines ∙ sym (append-nil (taken ++ line ∷ []));
      rest = s.rest;
    }
taking bytes taken line Long ended fed number size s =
    record {
      fed = s.fed;
      number = omega (arith, s.number, length-append taken (line ∷ []));
      lines = s.lines ∙ sym (append-nil (taken ++ line ∷ []));
      rest = λ e. omega (arith, size, ap length (s.rest e));
    }

-- the line that stands is taken
pub comes-take : (bytes : Bytes) (taken : List Bytes) (c : LinesState) → IsSized c.stage c.line
    → ComesFrom bytes taken c → ComesFrom bytes (taken ++ standing c.stage c.line) (after_taking c)
comes-take bytes taken c size s = taking bytes taken c.line c.stage c.ended c.fed c.number size s

slice_get-append : (taken more : List Bytes) → slice_get (taken ++ more) (length taken) ≡ slice_get more 0
slice_get-append [] more = refl
slice_get-append (line ∷ taken) more = slice_get-append taken more

-- the line after those that were taken is the one that stands, if one does
next_line : (bytes : Bytes) (taken : List Bytes) (c : LinesState) → ComesFrom bytes taken c
    → option_map (take long_length) (slice_get (lines_of bytes c.ended) (length taken)) ≡ slice_get (standing c.stage c.line) 0
next_line bytes taken c s =
    sym (slice_get-map (take long_length) (lines_of bytes c.ended) (length taken))
    ∙ ap (λ (lines : List Bytes). slice_get lines (length taken)) s.lines
    ∙ slice_get-append taken (standing c.stage c.line)

whole_is : (next : Option Bytes) (line : Bytes) (given : Bor (List ℕ)) → option_map (take long_length) next ≡ Some line → given.now ≡ line
    → length line < long_length → IsLineOf next (result.Whole given)
whole_is None line given h same size = absurd (cc h)
whole_is (Some bytes) line given h same size =
    let front : take long_length bytes ≡ line = cc in
    let short : length bytes < long_length = omega (arith, length-take long_length bytes, ap length front) in
    (same ∙ sym front ∙ take_all long_length bytes (omega arith), short)

long_is : (next : Option Bytes) (line : Bytes) → option_map (take long_length) next ≡ Some line → length line ≡ long_length → IsLineOf next result.Long
long_is None line h size = absurd (cc h)
long_is (Some bytes) line h size =
    let front : take long_length bytes ≡ line = cc in
    omega (arith, length-take long_length bytes, ap length front)

none_is : (next : Option Bytes) → option_map (take long_length) next ≡ None → IsLineOf next result.NotYet
none_is None h = tt
none_is (Some bytes) h = absurd (cc h)

-- what is handed out is the line after those that were taken
pub whole_line_of : (bytes : Bytes) (taken : List Bytes) (c : LinesState) (given : Bor (List ℕ)) → c.stage ≡ Whole → given.now ≡ c.line → length c.line < long_length
    → ComesFrom bytes taken c → IsLineOf (slice_get (lines_of bytes c.ended) (length taken)) (result.Whole given)
whole_line_of bytes taken c given stage same size s = whole_is _ c.line given (rw stage at (next_line bytes taken c s)) same size

pub long_line_of : (bytes : Bytes) (taken : List Bytes) (c : LinesState) → c.stage ≡ Long → length c.line ≡ long_length
    → ComesFrom bytes taken c → IsLineOf (slice_get (lines_of bytes c.ended) (length taken)) result.Long
long_line_of bytes taken c stage size s = long_is _ c.line (rw stage at (next_line bytes taken c s)) size

pub standing_one : (stage : Stage) (line : Bytes) → is_standing stage ≡ true → standing stage line ≡ line ∷ []
standing_one Whole line h = refl
standing_one Long line h = refl
standing_one Open line h = cc
standing_one Skipping line h = cc

pub standing_none : (stage : Stage) (line : Bytes) → is_standing stage ≡ false → standing stage line ≡ []
standing_none Open line h = refl
standing_none Skipping line h = refl
standing_none Whole line h = cc
standing_none Long line h = cc

pub no_line_of : (bytes : Bytes) (taken : List Bytes) (c : LinesState) → is_standing c.stage ≡ false
    → ComesFrom bytes taken c → IsLineOf (slice_get (lines_of bytes c.ended) (length taken)) result.NotYet
no_line_of bytes taken c free s = none_is _ (rw (standing_none c.stage c.line free) at (next_line bytes taken c s))
