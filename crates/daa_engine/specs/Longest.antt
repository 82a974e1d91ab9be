-- How long the text of a moment can be.
use Rattle.std.specs.Prelude.{ℕ, ◌+◌, ◌*◌}

-- no line of a report has more bytes
abbrev pub longest_line : ℕ
longest_line = 64

-- lines of the greatest length that have room for any text: the first line, two of each of 64 aircraft, one of each of 1896 values, since a kind has no more bands than values, two of each of
-- four kinds, its answers and its recovery, and the last line; the lines of last times fit into what the
-- first line, the last one and those of the answers leave of theirs
abbrev pub most_lines : ℕ
most_lines = 1 + 2 * 64 + 1896 + 2 * 4 + 1

-- no text of a moment has more bytes
abbrev pub longest_moment : ℕ
longest_moment = longest_line * most_lines
