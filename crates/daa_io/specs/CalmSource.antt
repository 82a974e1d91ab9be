-- What a contract sees of a source in memory that never fails.
use Rattle.std.specs.Prelude.{ℕ, List}

-- the bytes that are left, how many each call gives at most, and how many calls were made
pub record CalmSourceState : Type 0 where
  pub left : List ℕ
  pub pieces : List ℕ
  pub calls : ℕ
