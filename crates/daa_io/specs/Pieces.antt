-- In which pieces bytes are handed out or taken.
use Rattle.std.specs.Prelude.{ℕ, List, Option, None, Some, min, max, slice_get}

-- as many of `count` bytes as a piece of this size has, where a size of 0 counts as 1; all where there is no size
abbrev pub cut : Option ℕ → ℕ → ℕ
cut None count = count
cut (Some size) count = min count (max 1 size)

-- how many of `count` bytes call `call` moves: past the end of the list there is no bound
abbrev pub moved_by : List ℕ → ℕ → ℕ → ℕ
moved_by pieces call count = cut (slice_get pieces call) count
