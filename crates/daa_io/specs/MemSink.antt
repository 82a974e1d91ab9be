-- What a contract sees of a sink in memory.
use Rattle.std.specs.Prelude.{ℕ, List}

-- the bytes taken, how many more fit, how many each call takes at most, which calls fail, how many calls were made, and how many failed
pub record MemSinkState : Type 0 where
  pub taken : List ℕ
  pub room : ℕ
  pub pieces : List ℕ
  pub fails : List ℕ
  pub calls : ℕ
  pub faults : ℕ
