-- The fields of a line.
use Rattle.std.specs.Prelude.{ℕ, List, length, ◌==◌, ◌||◌, not, filter}
use Rattle.std.specs.List.{slice_split}

-- the stretches between spaces (32) and tabs (9) that are not empty; every other byte belongs to a field
abbrev pub fields_of : List ℕ → List (List ℕ)
fields_of line = filter (λ field. not (length field == 0)) (slice_split (λ byte. byte == 32 || byte == 9) line)
