-- A moment as the words of state lines say it, and what the steps from word to word make of them.
use Rattle.std.specs.Prelude.{◌≡◌, pos, List, [], ◌∷◌, ◌++◌, map, All, Some, None, Ok}
use Rattle.daa_state.specs.Bounds.{no_error}
use Rattle.daa_state.specs.Fault.{Checked, ◌>>=◌}
use Rattle.daa_state.specs.InRange.{IsWithin, IsWordInRange}
use Rattle.daa_state.specs.MomentStep.{MomentsState, Stepped, step, stepped}
use Rattle.daa_state.specs.Picture.{aircraft_of}
use Rattle.daa_state.specs.Ranges.{times}
use Rattle.daa_state.specs.declared.word.Picture.{Picture}
use Rattle.daa_state.specs.declared.word.Word.{Word}
use Rattle.daa_state.specs.declared.word.Word.TheVariants as says

-- the words that say a moment whose ownship's report is taken as the truth: its time, its ownship, each aircraft in order, and its end
abbrev pub moment_words : Picture → List Word
moment_words picture =
    says.Moment picture.time ∷ says.Own picture.own no_error ∷ (map (λ aircraft. says.Traffic aircraft) (aircraft_of picture) ++ says.End ∷ [])

-- what words make of a state, one after the other, or why the first that is refused is
unfoldable pub steps : Stepped → List Word → Checked Stepped
steps now [] = Ok now
steps now (word ∷ words) = do
  next ← step now.state word
  steps next words

-- a moment whose numbers are in range and of which no word is refused: its end gives the moment itself, and its time is then
-- the last
pub record IsTaken (state : MomentsState) (moment : Picture) : Type 0 where
  pub time : IsWithin times (pos moment.time)
  pub in_range : All IsWordInRange (moment_words moment)
  pub accepted : steps (stepped state None) (moment_words moment) ≡ Ok (stepped (record state { moment = None; last = Some moment.time }) (Some moment))
