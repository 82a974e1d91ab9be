-- What command words ask for.
use Rattle.std.specs.Prelude.{ℕ}
use Rattle.clap.specs.Walk.{Text}

-- a replay is asked to read ahead by `ahead` pieces;
-- an exercise draws `moments` moments from a seed;
-- a comparison compares a report with that of the states under a name
pub data Task : Type 0 where
  Replay : (ahead : ℕ) → Task
  Exercise : (seed moments : ℕ) → Task
  Judge : (states : Text) → Task
