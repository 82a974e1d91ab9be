-- What holds of the picture of every moment that lines end.
use Rattle.std.proofs.Common.{ℕ, ◌+◌, Bool, true, false, if◌then◌else◌, List, [], ◌∷◌, Option, None, Some, is_some, Ok, Err, suc, arith}
use Rattle.std.specs.Option.{option_map_or}
use Rattle.std.specs.Prelude.{All, IfOk, IfSome}
use Rattle.std.proofs.lemmas.List.Elements.{All-nil, All-cons, All-append}
use Rattle.daa_lines.specs.LinesOf.{Bytes}
use Rattle.daa_state.specs.Fault.{Checked}
use Rattle.daa_state.specs.MomentStep.{MomentsState, Stepped}
use Rattle.daa_state.specs.declared.fault.LineFault.TheVariants.{Unfinished}
use Rattle.daa_state.specs.declared.word.Picture.{Picture}
use Rattle.daa_replay.specs.declared.lines.Event.TheVariants as event
use Rattle.daa_replay.specs.Lines.{line_step, next_state, line_event, events_from, OfPicture}

-- what a line leaves: a state that is so, and, where it ends a moment, a picture of which P holds
pub record Leaves (IsSo : MomentsState → Type 0) (P : Picture → Type 0) (next : Stepped) : Type 0 where
  pub state : IsSo next.state
  pub picture : IfSome next.picture P

-- where each line that is so, after a state that is so, leaves such a state and such a picture
module _ (IsLine : Bytes → Type 0) (IsSo : MomentsState → Type 0) (P : Picture → Type 0)
    (leaves : (state : MomentsState) (line : Bytes) → IsLine line → IsSo state → IfOk (line_step state line) (Leaves IsSo P)) where
  next_so : (state : MomentsState) (next : Checked Stepped) → IsSo state → IfOk next (Leaves IsSo P) → IsSo (next_state state next)
  next_so state (Ok next) h k = k.state
  next_so state (Err fault) h k = h

  of_picture : (picture : Option Picture) → IfSome picture P → All (OfPicture P) (option_map_or (λ (one : Picture). event.Ended one ∷ []) picture [])
  of_picture None h = All-nil (OfPicture P)
  of_picture (Some picture) h = All-cons (OfPicture P) (event.Ended picture) [] h (All-nil (OfPicture P))

  of_line : (number : ℕ) (next : Checked Stepped) → IfOk next (Leaves IsSo P) → All (OfPicture P) (line_event number next)
  of_line number (Ok next) h = of_picture next.picture h.picture
  of_line number (Err fault) h = All-cons (OfPicture P) (event.Refused number fault) [] tt (All-nil (OfPicture P))

  of_end : (number : ℕ) (is_open : Bool) → All (OfPicture P) (if is_open then event.Refused number Unfinished ∷ [] else [])
  of_end number true = All-cons (OfPicture P) (event.Refused number Unfinished) [] tt (All-nil (OfPicture P))
  of_end number false = All-nil (OfPicture P)

  pub each_picture : (state : MomentsState) (number : ℕ) (ended : Bool) (lines : List Bytes) → IsSo state → All IsLine lines
      → All (OfPicture P) (events_from state number ended lines)
  each_picture state number false [] h ls = All-nil (OfPicture P)
  each_picture state number true [] h ls = of_end number (is_some state.moment)
  each_picture state number ended (line ∷ lines) h ls =
      let left = leaves state line (ls 0 line (omega arith)) h in
      All-append (OfPicture P) (line_event number (line_step state line)) (events_from (next_state state (line_step state line)) (number + 1) ended lines)
      (of_line number (line_step state line) left)
      (each_picture (next_state state (line_step state line)) (number + 1) ended lines (next_so state (line_step state line) h left) (λ k d l. ls (suc k) d (omega arith)))
