-- The numbers of a word are in range, whatever the line.
use Rattle.std.proofs.Common.{ℕ, ◌≡◌, ◌≤◌, ◌∷◌, [], ◌&&◌, ℤ, Bool, true, false, List, Ok, Err, refl, arith}
use Rattle.std.specs.Prelude.{IfOk, nat_le, int_le, length, slice_index, codes, unsigned_abs, ◌==◌, if◌then◌else◌}
use Rattle.std.proofs.lemmas.Int.{ints}
use Rattle.std.specs.Str.{bytes_eq}
use Rattle.std.specs.Str.Lines.{strip_carriage_return}
use Rattle.daa_state.specs.Fields.{fields_of}
use Rattle.daa_state.specs.Inside.Texts.{Bytes}
use Rattle.daa_state.specs.Id.{is_id}
use Rattle.daa_state.specs.InRange.{IsWithin, IsPosition, IsAltitude, IsTrack, IsGroundSpeed, IsSpeed, IsVerticalSpeed, IsAge, IsErrorBound, AreReportBoundsInRange, AreBoundsInRange, IsFormat, IsOwnInRange, IsTrafficInRange, IsWordInRange}
use Rattle.daa_state.specs.Bounds.{no_error, exact}
use Rattle.daa_state.specs.Number.{number, number_in, count_in}
use Rattle.daa_state.specs.Ranges.{Bounds, positions, altitudes, tracks, ground_speeds, speeds, vertical_speeds, ages, error_bounds, formats, times}
use Rattle.daa_state.specs.WordOf.{word_of, word_of_fields, number_word, own_of, bounded_own_of, ownship, report_bounds, traffic_of, aged_traffic_of, bounded_traffic_of, aircraft, end_of}
use Rattle.daa_state.specs.declared.word.Word.TheVariants as says
use Rattle.daa_state.specs.declared.fault.LineFault.TheVariants.{OutOfRange, BadId}
use Rattle.daa_state.proofs.CheckedLemmas.{IfOk-with, IfOk-if, IfOk-any}

-- ---- numbers

within-range : (range : Bounds) (n : ℤ) → IfOk (if int_le range.low n && int_le n range.high then Ok n else Err OutOfRange) (IsWithin range)
within-range range n = go (int_le range.low n) (int_le n range.high) refl refl
  where
    go : (a b : Bool) → int_le range.low n ≡ a → int_le n range.high ≡ b → IfOk (if a && b then Ok n else Err OutOfRange) (IsWithin range)
    go true true e f = (grind (arith, ints), grind (arith, ints))
    go true false e f = tt
    go false b e f = tt

number_in-range : (range : Bounds) (field : Bytes) → IfOk (number_in range field) (IsWithin range)
unfolding number_in
number_in-range range field = IfOk-any _ (number field) _ (within-range range)

age-range : (field : Bytes) → IfOk (count_in ages field) IsAge
unfolding count_in
age-range field = IfOk-with (IsWithin ages) IsAge (number_in ages field) _ (number_in-range ages field) short
  where
    short : (z : ℤ) → IsWithin ages z → unsigned_abs z ≤ 60
    short z h = omega (arith, ints, h.0, h.1)

error_bound-range : (field : Bytes) → IfOk (count_in error_bounds field) IsErrorBound
unfolding count_in
error_bound-range field = IfOk-with (IsWithin error_bounds) IsErrorBound (number_in error_bounds field) _ (number_in-range error_bounds field) small
  where
    small : (z : ℤ) → IsWithin error_bounds z → unsigned_abs z ≤ 10000
    small z h = omega (arith, ints, h.0, h.1)

format-range : (field : Bytes) → IfOk (count_in formats field) IsFormat
unfolding count_in
format-range field = IfOk-with (IsWithin formats) IsFormat (number_in formats field) _ (number_in-range formats field) known
  where
    known : (z : ℤ) → IsWithin formats z → IsFormat (unsigned_abs z)
    known z h = (omega (arith, ints, h.0, h.1), omega (arith, ints, h.0, h.1))

-- ---- words

identifier-is : (field : Bytes) → IfOk (if is_id field then Ok field else Err BadId) (λ id. is_id id ≡ true)
identifier-is field = go (is_id field) refl
  where
    go : (b : Bool) → is_id field ≡ b → IfOk (if b then Ok field else Err BadId) (λ id. is_id id ≡ true)
    go true e = e
    go false e = tt

pub no_error-range : AreReportBoundsInRange no_error
no_error-range = record { place = omega arith; height = omega arith; speed = omega arith; climb = omega arith }

pub exact-range : AreBoundsInRange exact
exact-range = record { own = no_error-range; aircraft = no_error-range }

aircraft-range : (id x y alt vx vy vs : Bytes) → IfOk (aircraft id x y alt vx vy vs) IsTrafficInRange
unfolding aircraft
aircraft-range id x y alt vx vy vs =
    IfOk-with (λ id. is_id id ≡ true) IsTrafficInRange (if is_id id then Ok id else Err BadId) _ (identifier-is id) (λ id in_id.
    IfOk-with IsPosition IsTrafficInRange (number_in positions x) _ (number_in-range positions x) (λ x in_x.
    IfOk-with IsPosition IsTrafficInRange (number_in positions y) _ (number_in-range positions y) (λ y in_y.
    IfOk-with IsAltitude IsTrafficInRange (number_in altitudes alt) _ (number_in-range altitudes alt) (λ alt in_alt.
    IfOk-with IsSpeed IsTrafficInRange (number_in speeds vx) _ (number_in-range speeds vx) (λ vx in_vx.
    IfOk-with IsSpeed IsTrafficInRange (number_in speeds vy) _ (number_in-range speeds vy) (λ vy in_vy.
    IfOk-with IsVerticalSpeed IsTrafficInRange (number_in vertical_speeds vs) _ (number_in-range vertical_speeds vs) (λ vs in_vs.
    record { id = in_id; x = in_x; y = in_y; alt = in_alt; vx = in_vx; vy = in_vy; vs = in_vs; age = omega arith; bounds = exact-range })))))))

moment-range : (fields : List Bytes) → IfOk (number_word times says.Moment fields) IsWordInRange
unfolding number_word
moment-range [] = tt
moment-range (a ∷ []) = IfOk-any _ (count_in times a) _ (λ time. tt)
moment-range (a ∷ b ∷ fields) = tt

ownship-range : (x y alt trk gs vs : Bytes) → IfOk (ownship x y alt trk gs vs) IsOwnInRange
unfolding ownship
ownship-range x y alt trk gs vs =
    IfOk-with IsPosition IsOwnInRange (number_in positions x) _ (number_in-range positions x) (λ x in_x.
    IfOk-with IsPosition IsOwnInRange (number_in positions y) _ (number_in-range positions y) (λ y in_y.
    IfOk-with IsAltitude IsOwnInRange (number_in altitudes alt) _ (number_in-range altitudes alt) (λ alt in_alt.
    IfOk-with IsTrack IsOwnInRange (number_in tracks trk) _ (number_in-range tracks trk) (λ trk in_trk.
    IfOk-with IsGroundSpeed IsOwnInRange (number_in ground_speeds gs) _ (number_in-range ground_speeds gs) (λ gs in_gs.
    IfOk-with IsVerticalSpeed IsOwnInRange (number_in vertical_speeds vs) _ (number_in-range vertical_speeds vs) (λ vs in_vs.
    record { x = in_x; y = in_y; alt = in_alt; trk = in_trk; gs = in_gs; vs = in_vs }))))))

report_bounds-range : (place height speed climb : Bytes) → IfOk (report_bounds place height speed climb) AreReportBoundsInRange
unfolding report_bounds
report_bounds-range place height speed climb =
    IfOk-with IsErrorBound AreReportBoundsInRange (count_in error_bounds place) _ (error_bound-range place) (λ place in_place.
    IfOk-with IsErrorBound AreReportBoundsInRange (count_in error_bounds height) _ (error_bound-range height) (λ height in_height.
    IfOk-with IsErrorBound AreReportBoundsInRange (count_in error_bounds speed) _ (error_bound-range speed) (λ speed in_speed.
    IfOk-with IsErrorBound AreReportBoundsInRange (count_in error_bounds climb) _ (error_bound-range climb) (λ climb in_climb.
    record { place = in_place; height = in_height; speed = in_speed; climb = in_climb }))))

own_of-range : (fields : List Bytes) → IfOk (own_of fields) IsWordInRange
unfolding own_of
own_of-range (x ∷ y ∷ alt ∷ trk ∷ gs ∷ vs ∷ []) =
    IfOk-with IsOwnInRange IsWordInRange (ownship x y alt trk gs vs) _ (ownship-range x y alt trk gs vs) (λ own h. (h, no_error-range))
own_of-range _ = tt

bounded_own_of-range : (fields : List Bytes) → IfOk (bounded_own_of fields) IsWordInRange
unfolding bounded_own_of
bounded_own_of-range (x ∷ y ∷ alt ∷ trk ∷ gs ∷ vs ∷ p ∷ v ∷ s ∷ w ∷ []) =
    IfOk-with IsOwnInRange IsWordInRange (ownship x y alt trk gs vs) _ (ownship-range x y alt trk gs vs) (λ own h.
    IfOk-with AreReportBoundsInRange IsWordInRange (report_bounds p v s w) _ (report_bounds-range p v s w) (λ bounds k. (h, k)))
bounded_own_of-range _ = tt

traffic_of-range : (fields : List Bytes) → IfOk (traffic_of fields) IsWordInRange
unfolding traffic_of
traffic_of-range (a ∷ b ∷ c ∷ d ∷ e ∷ f ∷ g ∷ []) = IfOk-with IsTrafficInRange _ (aircraft a b c d e f g) _ (aircraft-range a b c d e f g) (λ traffic h. h)
traffic_of-range _ = tt

aged_traffic_of-range : (fields : List Bytes) → IfOk (aged_traffic_of fields) IsWordInRange
unfolding aged_traffic_of
aged_traffic_of-range (a ∷ b ∷ c ∷ d ∷ e ∷ f ∷ g ∷ s ∷ []) =
    IfOk-with IsTrafficInRange _ (aircraft a b c d e f g) _ (aircraft-range a b c d e f g) (λ traffic h.
    IfOk-with IsAge _ (count_in ages s) _ (age-range s) (λ seconds k.
    record { id = h.id; x = h.x; y = h.y; alt = h.alt; vx = h.vx; vy = h.vy; vs = h.vs; age = k; bounds = h.bounds }))
aged_traffic_of-range _ = tt

bounded_traffic_of-range : (fields : List Bytes) → IfOk (bounded_traffic_of fields) IsWordInRange
unfolding bounded_traffic_of
bounded_traffic_of-range (a ∷ b ∷ c ∷ d ∷ e ∷ f ∷ g ∷ t ∷ p ∷ v ∷ s ∷ w ∷ []) =
    IfOk-with IsTrafficInRange _ (aircraft a b c d e f g) _ (aircraft-range a b c d e f g) (λ traffic h.
    IfOk-with IsAge _ (count_in ages t) _ (age-range t) (λ seconds k.
    IfOk-with AreReportBoundsInRange _ (report_bounds p v s w) _ (report_bounds-range p v s w) (λ bounds m.
    record {
      id = h.id;
      x = h.x;
      y = h.y;
      alt = h.alt;
      vx = h.vx;
      vy = h.vy;
      vs = h.vs;
      age = k;
      bounds = record { own = no_error-range; aircraft = m };
    })))
bounded_traffic_of-range _ = tt

format_word-range : (fields : List Bytes) → IfOk (number_word formats says.Format fields) IsWordInRange
unfolding number_word
format_word-range [] = tt
format_word-range (a ∷ []) = IfOk-with IsFormat _ (count_in formats a) _ (format-range a) (λ format h. h)
format_word-range (a ∷ b ∷ fields) = tt

end_of-range : (fields : List Bytes) → IfOk (end_of fields) IsWordInRange
unfolding end_of
end_of-range [] = tt
end_of-range (a ∷ fields) = tt

word_of_fields-range : (format : ℕ) (fields : List Bytes) → IfOk (word_of_fields format fields) IsWordInRange
unfolding word_of_fields
word_of_fields-range format [] = tt
word_of_fields-range format (name ∷ fields) =
    IfOk-if _ (slice_index name 0 == 35) _ _ tt (
    IfOk-if _ (bytes_eq name (codes "moment")) _ _ (moment-range fields) (
    IfOk-if _ (bytes_eq name (codes "own")) _ _ (IfOk-if _ (format == 3) _ _ (bounded_own_of-range fields) (own_of-range fields)) (
    IfOk-if _ (bytes_eq name (codes "traffic")) _ _ (IfOk-if _ (format == 3) _ _ (bounded_traffic_of-range fields)
    (IfOk-if _ (format == 2) _ _ (aged_traffic_of-range fields) (traffic_of-range fields))) (
    IfOk-if _ (bytes_eq name (codes "format")) _ _ (format_word-range fields) (
    IfOk-if _ (bytes_eq name (codes "end")) _ _ (end_of-range fields) tt)))))

pub word_of-range : (line : Bytes) (format : ℕ) → IfOk (word_of line format) IsWordInRange
unfolding word_of
word_of-range line format = IfOk-if _ (nat_le (length line) 255) _ _ (word_of_fields-range format (fields_of (strip_carriage_return line))) tt
