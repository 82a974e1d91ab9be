-- The lines of a report.
use Rattle.std.specs.Prelude.{ℕ, ℤ, List, ◌++◌, Option, codes, decimal}
use Rattle.std.specs.Fmt.{signed_decimal}
use Rattle.std.specs.List.{flat_map}
use Rattle.std.specs.Option.{option_map_or}
use Rattle.daa_config.specs.declared.kind.Kind.{Kind}
use Rattle.daa_config.specs.declared.kind.Kind.TheVariants.{Track, GroundSpeed, VerticalSpeed, Altitude}
use Rattle.daa_config.specs.declared.candidate.Resolution.{Resolution}
use Rattle.daa_config.specs.declared.candidate.Resolution.TheVariants.{Keep, To, Nothing}

-- bytes, as numbers
abbrev pub Text : Type 0
Text = List ℕ

-- the word of a kind
abbrev pub kind_word : Kind → Text
kind_word Track = codes "track"
kind_word GroundSpeed = codes "gs"
kind_word VerticalSpeed = codes "vs"
kind_word Altitude = codes "alt"

-- the words of a kind's lower and upper side
abbrev pub side_words : Kind → Text × Text
side_words Track = (codes "left", codes "right")
side_words _ = (codes "down", codes "up")

-- a candidate's value, `keep` or `none`
abbrev pub resolution_text : Resolution → Text
resolution_text Keep = codes "keep"
resolution_text (To value) = signed_decimal value
resolution_text Nothing = codes "none"

-- a word and numbers, each after a blank
unfoldable pub numbers_line : Text → List ℕ → Text
numbers_line word numbers = word ++ flat_map (λ number. codes " " ++ decimal number) numbers ++ codes "\n"

-- the level at which an aircraft alerts, and the first leg on which it does, or a dash
unfoldable pub alert_line : Text → ℕ → Option ℕ → Text
alert_line id level first = codes "alert " ++ id ++ codes " " ++ decimal level ++ codes " " ++ option_map_or decimal first (codes "-") ++ codes "\n"

-- the values of a kind, from the first up to the last, that show a level
unfoldable pub band_line : Kind → ℤ → ℤ → ℕ → Text
band_line kind from upto level =
    kind_word kind ++ codes " " ++ signed_decimal from ++ codes " " ++ signed_decimal upto ++ codes " " ++ decimal level ++ codes "\n"

-- the line of the answers on the two sides of a kind
unfoldable pub resolve_line : Kind → Resolution → Resolution → Text
resolve_line kind lower upper =
    codes "resolve" ++ codes " " ++ kind_word kind ++ codes " " ++ (side_words kind).0 ++ codes " " ++ resolution_text lower
    ++ codes " " ++ (side_words kind).1 ++ codes " " ++ resolution_text upper ++ codes "\n"

-- the last time of a kind: for how many seconds the present flight may be kept, or `none`
unfoldable pub last_line : Kind → Option ℕ → Text
last_line kind seconds = codes "last " ++ kind_word kind ++ codes " " ++ option_map_or decimal seconds (codes "none") ++ codes "\n"

-- the recovery of a kind: after how many seconds a candidate is clear and the value that it goes to, or `none`
unfoldable pub recover_line : Kind → Option (ℕ × ℤ) → Text
recover_line kind found =
    codes "recover " ++ kind_word kind ++ codes " " ++ option_map_or (λ f. decimal f.0 ++ codes " " ++ signed_decimal f.1) found (codes "none") ++ codes "\n"
