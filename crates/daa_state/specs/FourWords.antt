-- Lines as read if there were no word `format` and no ages: the four words of format 1.
use Rattle.std.specs.Prelude.{ℕ, Bool, false, List, [], ◌∷◌, length, slice_index, ◌==◌, nat_le, codes, Ok, Err, if◌then◌else◌}
use Rattle.std.specs.Str.{bytes_eq}
use Rattle.std.specs.Str.Lines.{strip_carriage_return}
use Rattle.daa_state.specs.Fault.{Checked}
use Rattle.daa_state.specs.Fields.{fields_of}
use Rattle.daa_state.specs.Ranges.{times}
use Rattle.daa_state.specs.WordOf.{number_word, own_of, traffic_of, end_of}
use Rattle.daa_state.specs.declared.word.Word.{Word}
use Rattle.daa_state.specs.declared.word.Word.TheVariants as says
use Rattle.daa_state.specs.declared.fault.LineFault.TheVariants.{LongLine, BadWord}

-- whether the first field is `format`
abbrev pub begins_with_format : List (List ℕ) → Bool
begins_with_format [] = false
begins_with_format (name ∷ fields) = bytes_eq name (codes "format")

-- the first field of the line is `format`
abbrev pub is_format_line : List ℕ → Bool
is_format_line line = begins_with_format (fields_of (strip_carriage_return line))

-- the word that the first field names, read from the others; a line without fields, or whose first begins with a number sign (35), says nothing
unfoldable pub four_word_of_fields : List (List ℕ) → Checked Word
four_word_of_fields [] = Ok says.Skip
four_word_of_fields (name ∷ fields) =
    if slice_index name 0 == 35 then Ok says.Skip
    else if bytes_eq name (codes "moment") then number_word times says.Moment fields
    else if bytes_eq name (codes "own") then own_of fields
    else if bytes_eq name (codes "traffic") then traffic_of fields
    else if bytes_eq name (codes "end") then end_of fields
    else Err BadWord

-- the word of a line, if there were only the four words
unfoldable pub four_word_of : List ℕ → Checked Word
four_word_of line =
    if nat_le (length line) 255 then four_word_of_fields (fields_of (strip_carriage_return line))
    else Err LongLine
