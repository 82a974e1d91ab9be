-- How many values numbers ask for.
use Rattle.std.specs.Prelude.{ℕ, ◌+◌, ◌/◌, nat_abs, ◌-ℤ◌}
use Rattle.daa_config.specs.declared.numbers.Grid.{Grid}

-- how many values a grid has
unfoldable pub count_of : Grid → ℕ
count_of g = nat_abs (g.max -ℤ g.min) / nat_abs g.step + 1
