-- How far a report was compared with what a source hands out.
use Rattle.std.specs.Prelude.{ℕ, ◌≡◌, ◌≤◌, ◌+◌, ◌^◌, ◌++◌, ◌==◌, length, count_by}
use Rattle.std.specs.Io.KnownBytes.{Consumes}
use Rattle.daa_ahead.specs.Bytes.{Bytes, StreamState}
use Rattle.daa_judge.specs.Found.{Finds}
use Rattle.daa_judge.specs.declared.found.Found.{Found}
use Rattle.daa_judge.specs.declared.found.Found.TheVariants as found
use Rattle.daa_judge.specs.declared.matching.Matching.{Matching}

-- how many lines end in these bytes
abbrev pub line_feeds : Bytes → ℕ
line_feeds bytes = count_by (λ byte. byte == 10) bytes

-- since a first state the source handed out this text and nothing else
pub record IsMatched (most : ℕ) (first : StreamState) (text : Bytes) (m : Matching)
    (now : StreamState) : Type 0 where
  pub handed : Consumes first.bytes now.bytes text
  pub size : length text + m.left ≡ most
  pub line : m.line ≡ 1 + line_feeds text
  pub calm : now.faults ≡ first.faults

-- the number of a line is far from the greatest
abbrev pub HasRoom : Matching → Type 0
HasRoom m = m.line + m.left ≤ 2 ^ 63

-- after `before`, `text` was compared: it matched too, or comparing stopped, and found this of
-- every report that goes on with it
abbrev pub Compares : Found → (most : ℕ) → (first : StreamState) → (before text : Bytes)
    → Matching → StreamState → Type 0
Compares found.Alike most first before text m now = IsMatched most first (before ++ text) m now
Compares (found.Differs number) most first before text m now = (rest : Bytes)
    → Finds (before ++ (text ++ rest)) most (found.Differs number) first now
Compares found.Fault most first before text m now = (rest : Bytes)
    → Finds (before ++ (text ++ rest)) most found.Fault first now
Compares found.Limit most first before text m now = (rest : Bytes)
    → Finds (before ++ (text ++ rest)) most found.Limit first now
