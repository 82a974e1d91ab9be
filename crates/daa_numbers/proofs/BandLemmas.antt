-- Bands that are filled in one after the other.
use Rattle.std.proofs.Common.{◌≡◌, ◌<◌, ◌≤◌, ◌+◌, ◌++◌, ◌∷◌, [], ℕ, ℤ, List, length, map, take, slice_set, ap, arith}
use Rattle.std.specs.List.{zip}
use Rattle.std.proofs.lemmas.List.{length-append, take_more_set, map_push}
use Rattle.daa_bands.specs.Band.{IsStretch}
use Rattle.daa_bands.specs.Walk.{Mark}
use Rattle.daa_bands.specs.Parts.{SplitsByEach}
use Rattle.daa_bands.specs.KindBands.{AreKindBands}
use Rattle.daa_bands.specs.Board.{HasLevelOn, mask_levels}
use Rattle.daa_bands.specs.declared.band.Band.{Band}
use Rattle.daa_config.specs.Candidates.{values_of}
use Rattle.daa_config.specs.Settings.{Settings}
use Rattle.daa_config.specs.declared.kind.Kind.{Kind}
use Rattle.daa_numbers.specs.Filled.{band_of}
use Rattle.daa_numbers.specs.declared.banding.DaaBand.{DaaBand}

not_empty : (band : Band) (stretch : List Mark) → IsStretch band stretch → 1 ≤ length stretch
not_empty band stretch s = let e = ap length s.first.1 in omega arith

bands_few : (marks : List Mark) (bands : List Band) → SplitsByEach IsStretch bands marks → length bands ≤ length marks
bands_few marks [] are = omega arith
bands_few marks (band ∷ bands) are =
    omega (arith, ap length are.joined, length-append are.first are.second, not_empty band are.first are.first_is, bands_few are.second bands are.second_is)

marks_few : (values : List ℤ) (levels : List ℕ) → length (zip values levels) ≤ length values
marks_few [] levels = omega arith
marks_few (z ∷ values) [] = omega arith
marks_few (z ∷ values) (n ∷ levels) = omega (arith, marks_few values levels)

-- a kind has no more bands than values
kind_few : (board : List ℕ) (s : Settings) (kind : Kind) (bands : List Band) → AreKindBands (HasLevelOn board) mask_levels s kind bands
    → length bands ≤ length (values_of kind s)
kind_few board s kind bands a = omega (arith, bands_few (zip (values_of kind s) a.levels) bands a.are.stretches, marks_few (values_of kind s) a.levels)

-- there is room for the next
pub fits : (board : List ℕ) (s : Settings) (kind : Kind) (given all done left rest : List Band) (x : Band) (room : ℕ)
    → AreKindBands (HasLevelOn board) mask_levels s kind given → all ≡ given → all ≡ done ++ left → left ≡ x ∷ rest
    → length (values_of kind s) ≤ room → length done < room
fits board s kind given all done left rest x room a e split next enough =
    omega (arith, kind_few board s kind given a, ap length e, ap length split, length-append done left, ap length next)

-- the next is filled in after those that are
pub next_filled : (bands : List DaaBand) (count : ℕ) (one : DaaBand) (done : List Band) (band : Band) → count < length bands
    → map band_of (take count bands) ≡ done → band_of one ≡ band → map band_of (take (count + 1) (slice_set bands count one)) ≡ done ++ band ∷ []
next_filled bands count one done band within so_far is =
    let more : map band_of (take (count + 1) (slice_set bands count one)) ≡ map band_of (take count bands ++ one ∷ []) =
    ap (map band_of) (take_more_set bands count one within) in
    let mapped : map band_of (take count bands ++ one ∷ []) ≡ map band_of (take count bands) ++ band_of one ∷ [] = map_push band_of (take count bands) one in
    cc (more, mapped, so_far, is)
