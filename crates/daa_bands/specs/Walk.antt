-- The bands that a walk over a board has still to give, found from the last value on.
use Rattle.std.specs.Prelude.{◌+◌, ◌-◌, ◌%◌, ◌^◌, ◌==◌, ℕ, ℤ, List, [], ◌∷◌, drop, slice_index, if◌then◌else◌}
use Rattle.std.specs.Int.{leading_zeros, w8}
use Rattle.daa_config.specs.Candidates.{values_of, start_of}
use Rattle.daa_config.specs.Settings.{Settings}
use Rattle.daa_config.specs.declared.kind.Kind.{Kind}
use Rattle.daa_bands.specs.declared.band.Band.{Band}

-- the greatest level that a mask of eight bits has, or 0
unfoldable pub shown_of : ℕ → ℕ
shown_of mask = 8 - leading_zeros w8 (mask % 2 ^ 8)

-- a value and its level
abbrev pub Mark : Type 0
Mark = ℤ × ℕ

-- a value with its level goes before the bands of the others: into the first of them, if that has its level
unfoldable pub with_mark : Mark → List Band → List Band
with_mark mark [] = record { from = mark.0; upto = mark.0; level = mark.1 } ∷ []
with_mark mark (band ∷ bands) =
    if band.level == mark.1 then record { from = mark.0; upto = band.upto; level = band.level } ∷ bands
    else record { from = mark.0; upto = mark.0; level = mark.1 } ∷ band ∷ bands

-- the bands of values with their levels
unfoldable pub bands_of : List Mark → List Band
bands_of [] = []
bands_of (mark ∷ marks) = with_mark mark (bands_of marks)

-- each value with the level that the board shows, where the first has this index
unfoldable pub marks_from : List ℕ → ℕ → List ℤ → List Mark
marks_from board index [] = []
marks_from board index (value ∷ values) = (value, shown_of (slice_index board index)) ∷ marks_from board (index + 1) values

-- the bands of a kind's values from an index of its list on
unfoldable pub bands_left : List ℕ → Settings → Kind → ℕ → List Band
bands_left board settings kind at = bands_of (marks_from board (start_of kind settings + at) (drop at (values_of kind settings)))
