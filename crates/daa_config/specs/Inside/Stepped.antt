-- What counting along a grid needs; every grid that is in its range has it.
use Rattle.std.specs.Prelude.{pos, negsuc, ◌≤ℤ◌}
use Rattle.daa_config.specs.declared.numbers.Grid.{Grid}

-- min and max are in order and at most 100000 in size, and the step is at least 1
pub record IsStepped (g : Grid) : Type 0 where
  pub low : negsuc 99999 ≤ℤ g.min
  pub ordered : g.min ≤ℤ g.max
  pub high : g.max ≤ℤ pos 100000
  pub step : pos 1 ≤ℤ g.step
