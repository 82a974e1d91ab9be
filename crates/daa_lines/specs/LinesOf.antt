-- The lines of an input. A line ends at a line feed, or with the input, and keeps a carriage return at its end.
use Rattle.std.specs.Prelude.{ℕ, Bool, List, [], ◌∷◌, ◌==◌, length, nat_le, map, take, if◌then◌else◌}
use Rattle.std.specs.List.{slice_split}

-- bytes, as numbers
abbrev pub Bytes : Type 0
Bytes = List ℕ

-- a line feed
abbrev pub line_feed : ℕ
line_feed = 10

-- a line of this number of bytes or more is long
abbrev pub long_length : ℕ
long_length = 256

-- the stretches between the line feeds; the last one, after the last line feed, is the rest
unfoldable pub stretches_of : Bytes → List Bytes
stretches_of bytes = slice_split (λ byte. byte == line_feed) bytes

-- the stretches that are lines: all but the rest, and the rest if it is not empty at the end of the input, or long
-- before the end
abbrev pub lines_in : Bool → List Bytes → List Bytes
lines_in ended [] = []
lines_in ended (rest ∷ []) = if nat_le (if ended then 1 else long_length) (length rest) then rest ∷ [] else []
lines_in ended (line ∷ stretches) = line ∷ lines_in ended stretches

-- the lines of the bytes, which are the whole input where it has ended, and else its beginning
unfoldable pub lines_of : Bytes → Bool → List Bytes
lines_of bytes ended = lines_in ended (stretches_of bytes)

-- each line, but of a long one its first bytes alone
abbrev pub shown : List Bytes → List Bytes
shown lines = map (take long_length) lines
