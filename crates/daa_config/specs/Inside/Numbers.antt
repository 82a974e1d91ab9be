-- Whether the levels or the values are too many, or there is no level.
use Rattle.std.specs.Prelude.{ℤ, pos, Bool, ◌||◌, ◌==◌, nat_lt, int_lt, List, [], ◌∷◌, length}
use Rattle.std.specs.List.{list_any}
use Rattle.daa_config.specs.declared.numbers.Numbers.{Numbers}
use Rattle.daa_config.specs.declared.numbers.LevelNumbers.{LevelNumbers}
use Rattle.daa_config.specs.Numbers.{count_of}

-- no level, more than may be, or resolve is above their number
unfoldable pub levels_are_wrong : ℤ → List LevelNumbers → Bool
levels_are_wrong resolve levels =
    length levels == 0 || (nat_lt 4 (length levels) || int_lt (pos (length levels)) resolve)

-- the grid of ground speed, vertical speed or altitude has more values than may be
unfoldable pub has_too_many : Numbers → Bool
has_too_many n = list_any (λ g. nat_lt 512 (count_of g)) (n.gs ∷ n.vs ∷ n.alt ∷ [])
