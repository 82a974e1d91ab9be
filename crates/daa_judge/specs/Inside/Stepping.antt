-- What one read gives of a comparison.
use Rattle.std.specs.Prelude.{ℕ, ◌≢◌, ◌<◌, ◌≤◌, ◌++◌, length, take}
use Rattle.daa_ahead.specs.Bytes.{Bytes, StreamState}
use Rattle.daa_judge.specs.Found.{Finds}
use Rattle.daa_judge.specs.Matching.{IsMatched}
use Rattle.daa_ahead.specs.declared.ended.Ended.{Ended}
use Rattle.daa_ahead.specs.declared.ended.Ended.TheVariants.{End, Fault, Limit, Stopped}
use Rattle.daa_judge.specs.declared.found.Found.{Found}
use Rattle.daa_judge.specs.declared.found.Found.TheVariants as found
use Rattle.daa_judge.specs.declared.matching.Matching.{Matching}
use Rattle.daa_judge.specs.declared.matching.Step.{Step}
use Rattle.daa_judge.specs.declared.matching.Step.TheVariants as step

-- how many bytes one read gives at most
abbrev pub longest_read : ℕ
longest_read = 4096

-- what the end of reading says of a report of which more was wanted; the next byte is in this line
abbrev pub found_at : Ended → ℕ → Found
found_at End line = found.Differs line
found_at Fault line = found.Fault
found_at Limit line = found.Limit
found_at Stopped line = found.Fault

-- the first `count` bytes of the text matched
pub record Took (count : ℕ) (text : Bytes) (old new : Matching)
    (source_old source_new : StreamState) : Type 0 where
  pub some : 0 < count
  pub within : count ≤ length text
  pub matched : (most : ℕ) (first : StreamState) (before : Bytes)
      → IsMatched most first before old source_old
      → IsMatched most first (before ++ take count text) new source_new

-- what one read makes of a comparison
abbrev pub Steps : Step → Bytes → (old new : Matching) → (source_old source_new : StreamState)
    → Type 0
Steps (step.Took count) text old new source_old source_new =
    Took count text old new source_old source_new
Steps (step.Stop result) text old new source_old source_new =
    (result ≢ found.Alike) × ((most : ℕ) (first : StreamState) (before rest : Bytes)
    → IsMatched most first before old source_old
    → Finds (before ++ (text ++ rest)) most result first source_new)
