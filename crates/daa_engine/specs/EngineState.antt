-- What contracts see of an engine.
use Rattle.std.specs.Prelude.{ℕ, ◌≤◌, List}
use Rattle.daa_config.specs.Settings.{Settings}

-- its configuration, its number of workers, and the masks of levels of the latest moment's candidates
pub record EngineState : Type 0 where
  pub settings : Settings
  pub workers : ℕ
  pub board : List ℕ

-- a number of workers is 1 to 16
pub record IsWorkerCount (workers : ℕ) : Type 0 where
  pub some : 1 ≤ workers
  pub few : workers ≤ 16
