-- How often each level came.
use Rattle.std.specs.Prelude.{◌==◌, ◌+◌, ℕ, List, map}
use Rattle.std.specs.List.{count_by, range_with_len}

-- how often each level, from 0 up to the top one, is among levels
unfoldable pub counts_of : ℕ → List ℕ → List ℕ
counts_of top levels = map (λ level. count_by (λ other. other == level) levels) (range_with_len 0 (top + 1))
