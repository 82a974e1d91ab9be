-- What a contract sees of a source in memory.
use Rattle.std.specs.Prelude.{ℕ, List}

-- the bytes that are left, how many each call gives at most, which calls fail, how many calls were made, and how many failed
pub record MemSourceState : Type 0 where
  pub left : List ℕ
  pub pieces : List ℕ
  pub fails : List ℕ
  pub calls : ℕ
  pub faults : ℕ
