-- The word of a line.
use Rattle.std.specs.Prelude.{ℕ, List, [], ◌∷◌, length, slice_index, ◌==◌, nat_le, codes, Ok, Err, if◌then◌else◌}
use Rattle.std.specs.Str.{bytes_eq}
use Rattle.std.specs.Str.Lines.{strip_carriage_return}
use Rattle.daa_state.specs.Fault.{Checked, ◌>>=◌, checked_map}
use Rattle.daa_state.specs.Fields.{fields_of}
use Rattle.daa_state.specs.Id.{is_id}
use Rattle.daa_state.specs.Number.{number_in, count_in}
use Rattle.daa_state.specs.Bounds.{no_error, exact}
use Rattle.daa_state.specs.Ranges.{Bounds, positions, altitudes, tracks, ground_speeds, speeds, vertical_speeds, ages, error_bounds, formats, times}
use Rattle.daa_state.specs.declared.word.Word.{Word}
use Rattle.daa_state.specs.declared.word.Word.TheVariants as says
use Rattle.daa_state.specs.declared.word.Own.{Own}
use Rattle.daa_state.specs.declared.word.ReportBounds.{ReportBounds}
use Rattle.daa_state.specs.declared.word.Traffic.{Traffic}
use Rattle.daa_state.specs.declared.fault.LineFault.TheVariants.{LongLine, BadWord, FieldCount, BadId}

-- the word that one number of a range makes: `moment T` and `format N`
unfoldable pub number_word : Bounds → (ℕ → Word) → List (List ℕ) → Checked Word
number_word range word (number ∷ []) = checked_map word (count_in range number)
number_word range word _ = Err FieldCount

-- the ownship of the fields `X Y ALT TRK GS VS`
unfoldable pub ownship : (x y alt trk gs vs : List ℕ) → Checked Own
ownship x y alt trk gs vs = do
  x ← number_in positions x
  y ← number_in positions y
  alt ← number_in altitudes alt
  trk ← number_in tracks trk
  gs ← number_in ground_speeds gs
  vs ← number_in vertical_speeds vs
  Ok (record { x = x; y = y; alt = alt; trk = trk; gs = gs; vs = vs })

-- what a report may err by, of the fields `P V S W`: in its place, its height, its velocity over ground and its vertical speed
unfoldable pub report_bounds : (place height speed climb : List ℕ) → Checked ReportBounds
report_bounds place height speed climb = do
  place ← count_in error_bounds place
  height ← count_in error_bounds height
  speed ← count_in error_bounds speed
  climb ← count_in error_bounds climb
  Ok (record { place = place; height = height; speed = speed; climb = climb })

-- `own X Y ALT TRK GS VS`, of formats 1 and 2
unfoldable pub own_of : List (List ℕ) → Checked Word
own_of (x ∷ y ∷ alt ∷ trk ∷ gs ∷ vs ∷ []) = checked_map (λ own. says.Own own no_error) (ownship x y alt trk gs vs)
own_of _ = Err FieldCount

-- `own X Y ALT TRK GS VS P V S W`, of format 3
unfoldable pub bounded_own_of : List (List ℕ) → Checked Word
bounded_own_of (x ∷ y ∷ alt ∷ trk ∷ gs ∷ vs ∷ place ∷ height ∷ speed ∷ climb ∷ []) = do
  own ← ownship x y alt trk gs vs
  bounds ← report_bounds place height speed climb
  Ok (says.Own own bounds)
bounded_own_of _ = Err FieldCount

-- the aircraft of the fields `ID X Y ALT VX VY VS`, whose report is of this moment
unfoldable pub aircraft : (id x y alt vx vy vs : List ℕ) → Checked Traffic
aircraft id x y alt vx vy vs = do
  id ← if is_id id then Ok id else Err BadId
  x ← number_in positions x
  y ← number_in positions y
  alt ← number_in altitudes alt
  vx ← number_in speeds vx
  vy ← number_in speeds vy
  vs ← number_in vertical_speeds vs
  Ok (record { id = id; x = x; y = y; alt = alt; vx = vx; vy = vy; vs = vs; age = 0; bounds = exact })

-- `traffic ID X Y ALT VX VY VS`, of format 1
unfoldable pub traffic_of : List (List ℕ) → Checked Word
traffic_of (id ∷ x ∷ y ∷ alt ∷ vx ∷ vy ∷ vs ∷ []) = checked_map says.Traffic (aircraft id x y alt vx vy vs)
traffic_of _ = Err FieldCount

-- `traffic ID X Y ALT VX VY VS AGE`, of format 2
unfoldable pub aged_traffic_of : List (List ℕ) → Checked Word
aged_traffic_of (id ∷ x ∷ y ∷ alt ∷ vx ∷ vy ∷ vs ∷ seconds ∷ []) = do
  traffic ← aircraft id x y alt vx vy vs
  seconds ← count_in ages seconds
  Ok (says.Traffic (record traffic { age = seconds }))
aged_traffic_of _ = Err FieldCount

-- `traffic ID X Y ALT VX VY VS AGE P V S W`, of format 3
unfoldable pub bounded_traffic_of : List (List ℕ) → Checked Word
bounded_traffic_of (id ∷ x ∷ y ∷ alt ∷ vx ∷ vy ∷ vs ∷ seconds ∷ place ∷ height ∷ speed ∷ climb ∷ []) = do
  traffic ← aircraft id x y alt vx vy vs
  seconds ← count_in ages seconds
  bounds ← report_bounds place height speed climb
  Ok (says.Traffic (record traffic { age = seconds; bounds = record { own = no_error; aircraft = bounds } }))
bounded_traffic_of _ = Err FieldCount

-- `end`
unfoldable pub end_of : List (List ℕ) → Checked Word
end_of [] = Ok says.End
end_of _ = Err FieldCount

-- the first field names the word of the others; a line without a field, or whose first field begins with a number sign (35), is skipped
unfoldable pub word_of_fields : ℕ → List (List ℕ) → Checked Word
word_of_fields format [] = Ok says.Skip
word_of_fields format (name ∷ fields) =
    if slice_index name 0 == 35 then Ok says.Skip
    else if bytes_eq name (codes "moment") then number_word times says.Moment fields
    else if bytes_eq name (codes "own") then (if format == 3 then bounded_own_of fields else own_of fields)
    else if bytes_eq name (codes "traffic") then (if format == 3 then bounded_traffic_of fields else if format == 2 then aged_traffic_of fields else traffic_of fields)
    else if bytes_eq name (codes "format") then number_word formats says.Format fields
    else if bytes_eq name (codes "end") then end_of fields
    else Err BadWord

-- the word of a line of at most 255 bytes, one carriage return at its end dropped, in the format of the lines
unfoldable pub word_of : List ℕ → ℕ → Checked Word
word_of line format =
    if nat_le (length line) 255 then word_of_fields format (fields_of (strip_carriage_return line))
    else Err LongLine
