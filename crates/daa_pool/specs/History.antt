-- All that the workers of a pool did and saw, as one list of steps of the core.
use Rattle.std.specs.Prelude.{◌≡◌, ℕ, List, ◌++◌, length}
use Rattle.std.specs.List.{Contains}
use Rattle.daa_range.specs.Word.{unpacked, IsInOrder}
use Rattle.daa_schedule.specs.CoreState.{CoreState, range_at, opened}
use Rattle.daa_schedule.specs.Runs.{run, AllEnded, steps_of, IsHistory}
use Rattle.daa_schedule.specs.declared.step.Step.{Step}
use Rattle.daa_pool.specs.declared.view.Look.{Look}
use Rattle.daa_pool.specs.declared.view.Part.{Part}

-- at some point of the history, after `look.moves` steps of the worker, the range was as found
pub record WasSo (opening : CoreState) (log : List Step) (number : ℕ) (look : Look) : Type 0 where
  pub earlier : List Step
  pub later : List Step
  pub point : log ≡ earlier ++ later
  pub moves : length (steps_of number earlier) ≡ look.moves
  pub in_order : IsInOrder look.word
  pub range : range_at (run opening earlier) look.worker ≡ unpacked look.word

-- the worker's steps in the history are those of the part, and each look is true of some point
pub record IsPartOf (opening : CoreState) (log : List Step) (part : Part) : Type 0 where
  pub moves : steps_of part.number log ≡ part.moves
  pub looks : (look : Look) → Contains part.looks look → WasSo opening log part.number look

-- the parts are those of one history of steps, none of them refused, which leads from the opening until all workers have ended
pub record IsOneHistory (answers : List ℕ) (workers : ℕ) (Has : Part → Type 0) : Type 0 where
  pub log : List Step
  pub core : CoreState
  pub history : IsHistory (opened answers workers) log core
  pub ended : AllEnded core
  pub parts : (part : Part) → Has part → IsPartOf (opened answers workers) log part
