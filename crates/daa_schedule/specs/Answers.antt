-- What the workers find out: a word for each unit.
use Rattle.std.specs.Prelude.{◌≢◌, ℕ, List}
use Rattle.std.specs.List.{All}

-- no answer is 0, which is on the board if a unit has no answer yet
abbrev pub AreAnswers : List ℕ → Type 0
AreAnswers answers = All (λ answer. answer ≢ 0) answers
