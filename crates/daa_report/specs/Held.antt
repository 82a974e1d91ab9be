-- What is written and what is held back of the lines that are said.
use Rattle.std.specs.Prelude.{ℕ, ◌≡◌, ◌++◌, List, Option, Result, OnOk, OnErr}
use Rattle.std.specs.Io.KnownBytes.{Appends}
use Rattle.daa_report.specs.Says.{AppendsFront, HasCause}

-- at Ok, what was held and the text is what the sink has taken now and what is held now; at Err, the sink has taken a
-- front of what was held and the text, and has failed
pub record SaysOrHolds {E : Type 0} (old new : Option (List ℕ)) (held_old held_new : List ℕ) (faults_old faults_new : ℕ) (text : List ℕ)
    (result : Result (Unit {0}) E) : Type 0 where
  pub whole : OnOk result ((bytes : List ℕ) × Appends old new bytes × (held_old ++ text ≡ bytes ++ held_new))
  pub front : OnErr result (AppendsFront old new (held_old ++ text))
  pub cause : HasCause faults_old faults_new result
