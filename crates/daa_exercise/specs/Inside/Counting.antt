-- How far the levels of an exercise are counted.
use Rattle.std.specs.Prelude.{◌≡◌, ◌+◌, ◌*◌, ◌≤◌, ℕ, zero, suc, List, [], ◌∷◌, ◌++◌, length, map, codes, slice_index, take}
use Rattle.std.specs.List.{AllZip, range_with_len, sum_by}
use Rattle.daa_config.specs.Settings.{Settings}
use Rattle.daa_config.specs.declared.kind.Kind.{Kind}
use Rattle.daa_config.specs.declared.kind.Kind.TheVariants.{Track, GroundSpeed, VerticalSpeed, Altitude}
use Rattle.daa_state.specs.Picture.{aircraft_of}
use Rattle.daa_state.specs.declared.word.Picture.{Picture}
use Rattle.daa_legs.specs.Alerts.{IsAlertLevel}
use Rattle.daa_bands.specs.Board.{mask_levels}
use Rattle.daa_bands.specs.KindBands.{AreShown}
use Rattle.daa_bands.specs.Parts.{SplitsInto}
use Rattle.daa_report.specs.Lines.{Text, kind_word, numbers_line}
use Rattle.daa_engine.specs.Covered.{CoveredAt}
use Rattle.daa_engine.specs.MomentText.{of_each}
use Rattle.daa_exercise.specs.Inside.Drawing.{Outputs}
use Rattle.daa_exercise.specs.Levels.{counts_of}
use Rattle.daa_exercise.specs.Moments.{moment_of}
use Rattle.daa_exercise.specs.declared.counting.Counts.{Counts}

-- ---- one moment

module _ (settings : Settings) (picture : Picture) where
  -- each aircraft, in order, has its alert level
  abbrev pub HasAlerts : List ℕ → Type 0
  HasAlerts levels = AllZip (IsAlertLevel settings picture.own) (aircraft_of picture) levels

  -- each candidate of the kind, in order, has its shown level
  abbrev pub HasShown : Kind → List ℕ → Type 0
  HasShown kind levels = AreShown (CoveredAt settings picture) (length settings.levels) settings kind levels

-- ---- a tally

-- a tally that counted some levels has counted these besides
abbrev pub CountsMore : List ℕ → (old new : List ℕ) → Type 0
CountsMore here old new = (levels : List ℕ) → old ≡ counts_of mask_levels levels → new ≡ counts_of mask_levels (levels ++ here)

-- each of its counts can rise by so much
abbrev pub HasRoomFor : ℕ → List ℕ → Type 0
HasRoomFor n tally = (level : ℕ) → slice_index tally level + n ≤ 4294967295

-- it has counted the levels of one moment more
abbrev pub Adds : (List ℕ → Type 0) → (old new : List ℕ) → Type 0
Adds Has old new = (here : List ℕ) × Has here × CountsMore here old new

-- a tally that counted what the first of two counted, and then what the second counted
abbrev pub Joins : (first second both : List ℕ) → Type 0
Joins first second both = (here more : List ℕ) → first ≡ counts_of mask_levels here → second ≡ counts_of mask_levels more → both ≡ counts_of mask_levels (here ++ more)

-- each count of two tallies can be added
abbrev pub HaveRoom : (first second : List ℕ) → Type 0
HaveRoom first second = (level : ℕ) → slice_index first level + slice_index second level ≤ 4294967295

-- ---- the moments from a time on

-- how many aircraft there are in moments
abbrev pub aircraft_in : List Picture → ℕ
aircraft_in pictures = sum_by (λ (picture : Picture). length (aircraft_of picture)) pictures

-- the levels of each of so many moments from a time on, one moment after the other
abbrev pub AreLevelsFrom : (Picture → List ℕ → Type 0) → Outputs → (time count : ℕ) → List ℕ → Type 0
AreLevelsFrom Has output time zero levels = levels ≡ []
AreLevelsFrom Has output time (suc count) levels = SplitsInto (AreLevelsFrom Has output time count) (Has (moment_of output (time + count))) levels

-- a tally has counted these levels, at most 512 of each moment
pub record HasCounted (Has : Picture → List ℕ → Type 0) (output : Outputs) (time count : ℕ) (tally : List ℕ) : Type 0 where
  pub levels : List ℕ
  pub are : AreLevelsFrom Has output time count levels
  pub counted : tally ≡ counts_of mask_levels levels
  pub few : length levels ≤ 512 * count

-- how many aircraft there are in these moments
unfoldable pub aircraft_from : Outputs → (time count : ℕ) → ℕ
aircraft_from output time count = aircraft_in (map (moment_of output) (range_with_len time count))

-- ---- all that is counted

-- it can take one moment more
pub record IsRoomy (counts : Counts) : Type 0 where
  pub aircraft : counts.aircraft + 64 ≤ 4294967295
  pub alerts : HasRoomFor 64 counts.alerts
  pub track : HasRoomFor 512 counts.track
  pub speed : HasRoomFor 512 counts.speed
  pub climb : HasRoomFor 512 counts.climb
  pub height : HasRoomFor 512 counts.height

-- one moment more is counted
pub record CountsPicture (settings : Settings) (picture : Picture) (old new : Counts) : Type 0 where
  pub aircraft : new.aircraft ≡ old.aircraft + length (aircraft_of picture)
  pub alerts : Adds (HasAlerts settings picture) old.alerts new.alerts
  pub track : Adds (HasShown settings picture Track) old.track new.track
  pub speed : Adds (HasShown settings picture GroundSpeed) old.speed new.speed
  pub climb : Adds (HasShown settings picture VerticalSpeed) old.climb new.climb
  pub height : Adds (HasShown settings picture Altitude) old.height new.height

-- what the first of two counted is counted, and what the second counted
pub record AddsUp (first second both : Counts) : Type 0 where
  pub aircraft : both.aircraft ≡ first.aircraft + second.aircraft
  pub alerts : Joins first.alerts second.alerts both.alerts
  pub track : Joins first.track second.track both.track
  pub speed : Joins first.speed second.speed both.speed
  pub climb : Joins first.climb second.climb both.climb
  pub height : Joins first.height second.height both.height

-- the counts of both can be added
pub record HaveAllRoom (first second : Counts) : Type 0 where
  pub aircraft : first.aircraft + second.aircraft ≤ 4294967295
  pub alerts : HaveRoom first.alerts second.alerts
  pub track : HaveRoom first.track second.track
  pub speed : HaveRoom first.speed second.speed
  pub climb : HaveRoom first.climb second.climb
  pub height : HaveRoom first.height second.height

-- so many moments from a time on are counted
pub record AreCounted (settings : Settings) (output : Outputs) (time count : ℕ) (counts : Counts) : Type 0 where
  pub aircraft : counts.aircraft ≡ aircraft_from output time count
  pub few : counts.aircraft ≤ 64 * count
  pub alerts : HasCounted (HasAlerts settings) output time count counts.alerts
  pub track : HasCounted (λ picture. HasShown settings picture Track) output time count counts.track
  pub speed : HasCounted (λ picture. HasShown settings picture GroundSpeed) output time count counts.speed
  pub climb : HasCounted (λ picture. HasShown settings picture VerticalSpeed) output time count counts.climb
  pub height : HasCounted (λ picture. HasShown settings picture Altitude) output time count counts.height

-- ---- what is written of it

-- the counts of a kind, by band level
abbrev pub tally_of : Counts → Kind → List ℕ
tally_of counts Track = counts.track
tally_of counts GroundSpeed = counts.speed
tally_of counts VerticalSpeed = counts.climb
tally_of counts Altitude = counts.height

-- the lines of a summary: the seed and the number of moments; how many aircraft there were; how often each level was an
-- aircraft's alert level; and how often it was the shown level of a candidate of each kind
unfoldable pub summary_text : (seed moments aircraft : ℕ) → (alerts : List ℕ) → (shown : Kind → List ℕ) → Text
summary_text seed moments aircraft alerts shown =
    numbers_line (codes "exercise") (seed ∷ moments ∷ [])
    ++ (numbers_line (codes "aircraft") (aircraft ∷ [])
    ++ (numbers_line (codes "alert") alerts
    ++ (of_each (λ kind. numbers_line (kind_word kind) (shown kind))
    ++ numbers_line (codes "done") [])))

-- the summary that these counts give, up to the greatest level
abbrev pub written : (seed moments top : ℕ) → Counts → Text
written seed moments top counts =
    summary_text seed moments counts.aircraft (take (top + 1) counts.alerts) (λ kind. take (top + 1) (tally_of counts kind))
