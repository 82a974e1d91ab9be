-- What a writer leaves at a sink.
use Rattle.std.specs.Prelude.{ℕ, ◌≡◌, ◌≤◌, ◌++◌, List, Option, Result, OnOk, OnErr}
use Rattle.std.specs.Io.KnownBytes.{Appends}
use Rattle.daa_io.specs.Faults.{HasRisen}

-- the known bytes grew by a front of the text
abbrev pub AppendsFront : Option (List ℕ) → Option (List ℕ) → List ℕ → Type 0
AppendsFront old new text =
    (front : List ℕ) × (unwritten : List ℕ) × (text ≡ front ++ unwritten) × Appends old new front

-- a fault is returned only if the fault counter rose; it never falls, and stays without a fault
pub record HasCause {T E : Type 0} (old new : ℕ) (result : Result T E) : Type 0 where
  pub later : old ≤ new
  pub risen : OnErr result (HasRisen old new)
  pub steady : OnOk result (new ≡ old)

-- at Ok the sink took the text, at Err a front of it, and failed; its fault counter never falls
pub record Says {E : Type 0} (old new : Option (List ℕ)) (faults_old faults_new : ℕ) (text : List ℕ) (result : Result (Unit {0}) E) : Type 0 where
  pub whole : OnOk result (Appends old new text)
  pub front : OnErr result (AppendsFront old new text)
  pub cause : HasCause faults_old faults_new result

-- what `Says` says, of some text of which P holds
abbrev pub SaysSome : {E : Type 0} → (List ℕ → Type 0) → (old new : Option (List ℕ)) → (faults_old faults_new : ℕ) → Result (Unit {0}) E → Type 0
SaysSome {E} P old new faults_old faults_new result =
    (text : List ℕ) × P text × Says {E = E} old new faults_old faults_new text result
