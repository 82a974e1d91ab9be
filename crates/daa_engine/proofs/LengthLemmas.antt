-- How long the text of a moment can be.
use Rattle.std.proofs.Common.{◌≡◌, ◌<◌, ◌≤◌, ◌+◌, ◌*◌, ◌^◌, ◌++◌, ◌∙◌, ℕ, suc, ℤ}
use Rattle.std.proofs.Common.{pos, negsuc, ◌≤ℤ◌, Bool, true, false, List, [], ◌∷◌, length, Option}
use Rattle.std.proofs.Common.{Some, None, option_map, refl, sym, ap, subst, arith, length-append, slice_get}
use Rattle.std.specs.Prelude.{codes, decimal, is_some, slice_index, MatchOption}
use Rattle.std.specs.Option.{option_map_or, unwrap_or}
use Rattle.daa_legs.specs.Alerts.{IsFirstLeg}
use Rattle.std.specs.Fmt.{signed_decimal}
use Rattle.std.specs.List.{flat_map, zip, AllByRecursion}
use Rattle.std.proofs.lemmas.Int.{ints}
use Rattle.std.proofs.lemmas.Fmt.{length-decimal-le}
use Rattle.std.proofs.lemmas.Option.{slice_get_within}
use Rattle.std.proofs.lemmas.Bool.Decides.{nat_tests}
use Rattle.std.proofs.lemmas.List.Elements.{recursion_from_All}
use Rattle.daa_config.specs.Candidates.{values_of}
use Rattle.daa_config.specs.Settings.{Settings, IsAccepted, IsInBounds, value_bounds}
use Rattle.daa_config.specs.declared.candidate.Resolution.{Resolution}
use Rattle.daa_config.specs.declared.candidate.Resolution.TheVariants.{Keep, To, Nothing}
use Rattle.daa_config.specs.declared.kind.Kind.{Kind}
use Rattle.daa_config.specs.declared.kind.Kind.TheVariants.{Track, GroundSpeed, VerticalSpeed, Altitude}
use Rattle.daa_config.proofs.GridLemmas.{length-values, few_tracks, few_of_kind, value_there}
use Rattle.daa_state.specs.Id.{is_id}
use Rattle.daa_state.specs.InRange.{IsTrafficInRange, IsPictureInRange}
use Rattle.daa_state.specs.Picture.{aircraft_of}
use Rattle.daa_state.specs.declared.word.Picture.{Picture}
use Rattle.daa_state.specs.declared.word.Traffic.{Traffic}
use Rattle.daa_alert.specs.declared.aircraft_alert.Alert.{Alert}
use Rattle.daa_alert.specs.Alert.{IsAlertOf}
use Rattle.daa_bands.specs.Band.{IsStretch}
use Rattle.daa_bands.specs.Walk.{Mark}
use Rattle.daa_bands.specs.KindBands.{AreKindBands}
use Rattle.daa_bands.specs.declared.band.Band.{Band}
use Rattle.daa_resolve.specs.Resolution.{IsResolution}
use Rattle.daa_resolve.specs.declared.side.Side.{Side}
use Rattle.daa_resolve.specs.declared.side.Side.TheVariants.{Lower, Upper}
use Rattle.daa_last.specs.Last.{IsLastTime}
use Rattle.daa_recovery.specs.Recovery.{IsRecovery}
use Rattle.daa_recovery.specs.declared.recovery.Recovery.{Recovery}
use Rattle.daa_report.specs.Lines.{Text, kind_word, side_words, resolution_text, numbers_line, alert_line, band_line, resolve_line, last_line, recover_line}
use Rattle.daa_engine.specs.Covered.{CoveredAt}
use Rattle.daa_engine.specs.Longest.{longest_moment}
use Rattle.daa_bands.specs.Parts.{SplitsByEach}
use Rattle.daa_engine.specs.MomentText.{AreAircraftLines, IsLastText, IsRecoveryText, IsMomentText, of_each}
use Rattle.daa_engine.specs.Inside.Findings.{found_of}

-- ---- numbers

few_digits : (n : ℕ) → n < 2 ^ 32 → length (decimal n) ≤ 20
few_digits n h = length-decimal-le 20 n (omega arith) (omega arith) (omega arith)

-- what a value of any kind is from and up to
record IsValue (z : ℤ) : Type 0 where
  least : negsuc 99999 ≤ℤ z
  most : z ≤ℤ pos 99999

few_signed : (z : ℤ) → IsValue z → length (signed_decimal z) ≤ 12
few_signed (pos n) h = let m = h.most in length-decimal-le 12 n (omega arith) (omega (arith, ints)) (omega (arith, ints))
few_signed (negsuc n) h = let l = h.least in omega (arith, length-decimal-le 11 (suc n) (omega arith) (omega (arith, ints)) (omega (arith, ints)))

value_of_kind : (kind : Kind) (z : ℤ) → IsInBounds (value_bounds kind) z → IsValue z
value_of_kind Track z h = let l = h.least in let m = h.most in record { least = omega (arith, ints); most = omega (arith, ints) }
value_of_kind GroundSpeed z h = let l = h.least in let m = h.most in record { least = omega (arith, ints); most = omega (arith, ints) }
value_of_kind VerticalSpeed z h = let l = h.least in let m = h.most in record { least = omega (arith, ints); most = omega (arith, ints) }
value_of_kind Altitude z h = let l = h.least in let m = h.most in record { least = omega (arith, ints); most = omega (arith, ints) }

-- ---- lines

-- each text of these and a last one, put together from the left
joined : (a b : Text) (m n : ℕ) → length a ≤ m → length b ≤ n → length (a ++ b) ≤ m + n
joined a b m n h k = omega (arith, length-append a b)

few_of_id : (id : Text) → is_id id ≡ true → length id ≤ 8
few_of_id id h = grind (arith, nat_tests)

word_of_kind : (kind : Kind) → length (kind_word kind) ≤ 5
word_of_kind Track = omega arith
word_of_kind GroundSpeed = omega arith
word_of_kind VerticalSpeed = omega arith
word_of_kind Altitude = omega arith

lower_of_kind : (kind : Kind) → length ((side_words kind).0) ≤ 5
lower_of_kind Track = omega arith
lower_of_kind GroundSpeed = omega arith
lower_of_kind VerticalSpeed = omega arith
lower_of_kind Altitude = omega arith

upper_of_kind : (kind : Kind) → length ((side_words kind).1) ≤ 5
upper_of_kind Track = omega arith
upper_of_kind GroundSpeed = omega arith
upper_of_kind VerticalSpeed = omega arith
upper_of_kind Altitude = omega arith

-- a number of at most this length, or a word
number_or_short : (number : Option ℕ) (word : Text) → length word ≤ 20 → ((n : ℕ) → number ≡ Some n → n < 2 ^ 32) → length (option_map_or decimal number word) ≤ 20
number_or_short None word w h = w
number_or_short (Some n) word w h = few_digits n (h n refl)

resolution_short : (resolution : Resolution) → ((z : ℤ) → resolution ≡ To z → IsValue z) → length (resolution_text resolution) ≤ 12
resolution_short Keep h = omega arith
resolution_short (To z) h = few_signed z (h z refl)
resolution_short Nothing h = omega arith

-- a word and one number
number_short : (word : Text) (n most : ℕ) → length word ≤ most → n < 2 ^ 32 → length (numbers_line word (n ∷ [])) ≤ most + 22
unfolding numbers_line
number_short word n most w h =
    let field = joined (codes " ") (decimal n) 1 20 (omega arith) (few_digits n h) in
    let fields = joined (codes " " ++ decimal n) [] 21 0 field (omega arith) in
    let all : length (numbers_line word (n ∷ [])) ≤ most + 21 + 1 = joined
    (word ++ ((codes " " ++ decimal n) ++ []))
    (codes "\n")
    (most + 21)
    1
    (joined word ((codes " " ++ decimal n) ++ []) most 21 w fields)
    (omega arith) in
    omega (arith, all)

pub moment_short : (time : ℕ) → time < 2 ^ 32 → length (numbers_line (codes "moment") (time ∷ [])) ≤ 28
moment_short time h = omega (arith, number_short (codes "moment") time 6 (omega arith) h)

done_short : (time : ℕ) → time < 2 ^ 32 → length (numbers_line (codes "done") (time ∷ [])) ≤ 26
done_short time h = omega (arith, number_short (codes "done") time 4 (omega arith) h)

now_short : (id : Text) (level : ℕ) → length id ≤ 8 → level < 2 ^ 32 → length (numbers_line (codes "now " ++ id) (level ∷ [])) ≤ 64
now_short id level i l = omega (arith, number_short (codes "now " ++ id) level 12 (omega (arith, joined (codes "now ") id 4 8 (omega arith) i)) l)

alert_short : (id : Text) (level : ℕ) (first : Option ℕ) → length id ≤ 8 → level < 2 ^ 32 → ((leg : ℕ) → first ≡ Some leg → leg < 2 ^ 32) → length (alert_line id level first) ≤ 64
unfolding alert_line
alert_short id level first i l f =
    let w = option_map_or decimal first (codes "-") in
    omega (
      arith,
      few_digits level l,
      number_or_short first (codes "-") (omega arith) f,
      length-append (codes "alert ") id,
      length-append (codes "alert " ++ id) (codes " "),
      length-append (codes "alert " ++ id ++ codes " ") (decimal level),
      length-append (codes "alert " ++ id ++ codes " " ++ decimal level) (codes " "),
      length-append (codes "alert " ++ id ++ codes " " ++ decimal level ++ codes " ") w,
      length-append (codes "alert " ++ id ++ codes " " ++ decimal level ++ codes " " ++ w) (codes "\n"),
    )

band_short : (kind : Kind) (from upto : ℤ) (level : ℕ) → IsValue from → IsValue upto → level < 2 ^ 32 → length (band_line kind from upto level) ≤ 64
unfolding band_line
band_short kind from upto level f u l =
    let w = kind_word kind in let a = signed_decimal from in let b = signed_decimal upto in
    omega (
      arith,
      word_of_kind kind,
      few_signed from f,
      few_signed upto u,
      few_digits level l,
      length-append w (codes " "),
      length-append (w ++ codes " ") a,
      length-append (w ++ codes " " ++ a) (codes " "),
      length-append (w ++ codes " " ++ a ++ codes " ") b,
      length-append (w ++ codes " " ++ a ++ codes " " ++ b) (codes " "),
      length-append (w ++ codes " " ++ a ++ codes " " ++ b ++ codes " ") (decimal level),
      length-append (w ++ codes " " ++ a ++ codes " " ++ b ++ codes " " ++ decimal level) (codes "\n"),
    )

resolve_short : (kind : Kind) (lower upper : Resolution) → ((z : ℤ) → lower ≡ To z → IsValue z) → ((z : ℤ) → upper ≡ To z → IsValue z)
    → length (resolve_line kind lower upper) ≤ 52
unfolding resolve_line
resolve_short kind lower upper l u =
    let k = kind_word kind in let w = (side_words kind).0 in let a = resolution_text lower in let v = (side_words kind).1 in let b = resolution_text upper in
    let r = codes "resolve" in let s = codes " " in
    omega (
      arith,
      word_of_kind kind,
      lower_of_kind kind,
      upper_of_kind kind,
      resolution_short lower l,
      resolution_short upper u,
      length-append r s,
      length-append (r ++ s) k,
      length-append (r ++ s ++ k) s,
      length-append (r ++ s ++ k ++ s) w,
      length-append (r ++ s ++ k ++ s ++ w) s,
      length-append (r ++ s ++ k ++ s ++ w ++ s) a,
      length-append (r ++ s ++ k ++ s ++ w ++ s ++ a) s,
      length-append (r ++ s ++ k ++ s ++ w ++ s ++ a ++ s) v,
      length-append (r ++ s ++ k ++ s ++ w ++ s ++ a ++ s ++ v) s,
      length-append (r ++ s ++ k ++ s ++ w ++ s ++ a ++ s ++ v ++ s) b,
      length-append (r ++ s ++ k ++ s ++ w ++ s ++ a ++ s ++ v ++ s ++ b) (codes "\n"),
    )

seconds_short : (seconds : Option ℕ) → ((n : ℕ) → seconds ≡ Some n → n < 180) → length (option_map_or decimal seconds (codes "none")) ≤ 12
seconds_short None h = omega arith
seconds_short (Some n) h = length-decimal-le 12 n (omega arith) (omega (arith, h n refl)) (omega (arith, h n refl))

last_short : (kind : Kind) (seconds : Option ℕ) → ((n : ℕ) → seconds ≡ Some n → n < 180) → length (last_line kind seconds) ≤ 24
unfolding last_line
last_short kind seconds h =
    let k = kind_word kind in let w = codes "last " in let s = codes " " in let f = option_map_or decimal seconds (codes "none") in
    omega (
      arith,
      word_of_kind kind,
      seconds_short seconds h,
      length-append w k,
      length-append (w ++ k) s,
      length-append (w ++ k ++ s) f,
      length-append (w ++ k ++ s ++ f) (codes "\n"),
    )

-- after how many seconds, and a value
record IsFoundShort (found : ℕ × ℤ) : Type 0 where
  soon : found.0 < 2 ^ 32
  fits : IsValue found.1

-- the two of them on a line
abbrev found_text : ℕ × ℤ → Text
found_text pair = decimal pair.0 ++ codes " " ++ signed_decimal pair.1

found_short : (found : Option (ℕ × ℤ)) → ((pair : ℕ × ℤ) → found ≡ Some pair → IsFoundShort pair) → length (option_map_or found_text found (codes "none")) ≤ 40
found_short None h = omega arith
found_short (Some pair) h =
    let f = h pair refl in
    let n = joined (decimal pair.0) (codes " ") 20 1 (few_digits pair.0 f.soon) (omega arith) in
    omega (arith, joined (decimal pair.0 ++ codes " ") (signed_decimal pair.1) 21 12 n (few_signed pair.1 f.fits))

recover_short : (kind : Kind) (found : Option (ℕ × ℤ)) → ((pair : ℕ × ℤ) → found ≡ Some pair → IsFoundShort pair)
    → length (recover_line kind found) ≤ 64
unfolding recover_line
recover_short kind found h =
    let k = kind_word kind in let r = codes "recover " in let s = codes " " in let f = option_map_or found_text found (codes "none") in
    omega (
      arith,
      word_of_kind kind,
      found_short found h,
      length-append r k,
      length-append (r ++ k) s,
      length-append (r ++ k ++ s) f,
      length-append (r ++ k ++ s ++ f) (codes "\n"),
    )

-- ---- bands

-- a value with its level
abbrev IsMark : Mark → Type 0
IsMark mark = IsValue mark.0 × (mark.1 ≤ 4)

record IsBand (band : Band) : Type 0 where
  from : IsValue band.from
  upto : IsValue band.upto
  level : band.level ≤ 4

left_all : {X : Type 0} (P : X → Type 0) (xs ys : List X) → AllByRecursion P (xs ++ ys) → AllByRecursion P xs
left_all P [] ys h = tt
left_all P (x ∷ xs) ys h = (h.0, left_all P xs ys h.1)

right_all : {X : Type 0} (P : X → Type 0) (xs ys : List X) → AllByRecursion P (xs ++ ys) → AllByRecursion P ys
right_all P [] ys h = h
right_all P (x ∷ xs) ys h = right_all P xs ys h.1

of_stretch : (band : Band) (stretch : List Mark) → IsStretch band stretch → AllByRecursion IsMark stretch → IsBand band
of_stretch band stretch s h =
    let first = subst (AllByRecursion IsMark) s.first.1 h in
    let last = right_all IsMark s.last.0 _ (subst (AllByRecursion IsMark) s.last.1 h) in
    record { from = first.0.0; upto = last.0.0; level = first.0.1 }

not_empty : (band : Band) (stretch : List Mark) → IsStretch band stretch → 1 ≤ length stretch
not_empty band stretch s = let e = ap length s.first.1 in omega arith

bands_in : (marks : List Mark) (bands : List Band) → SplitsByEach IsStretch bands marks → AllByRecursion IsMark marks → AllByRecursion IsBand bands
bands_in marks [] are h = tt
bands_in marks (band ∷ bands) are h =
    let k = subst (AllByRecursion IsMark) are.joined h in (
      of_stretch band are.first are.first_is (left_all IsMark are.first are.second k),
      bands_in are.second bands are.second_is (right_all IsMark are.first are.second k),
    )

bands_few : (marks : List Mark) (bands : List Band) → SplitsByEach IsStretch bands marks → length bands ≤ length marks
bands_few marks [] are = omega arith
bands_few marks (band ∷ bands) are =
    let e = ap length are.joined ∙ length-append are.first are.second in
    omega (arith, e, not_empty band are.first are.first_is, bands_few are.second bands are.second_is)

marks_in : (values : List ℤ) (levels : List ℕ) → AllByRecursion IsValue values → AllByRecursion (λ l. l ≤ 4) levels → AllByRecursion IsMark (zip values levels)
marks_in [] levels v l = tt
marks_in (z ∷ values) [] v l = tt
marks_in (z ∷ values) (n ∷ levels) v l = ((v.0, l.0), marks_in values levels v.1 l.1)

marks_few : (values : List ℤ) (levels : List ℕ) → length (zip values levels) ≤ length values
marks_few [] levels = omega arith
marks_few (z ∷ values) [] = omega arith
marks_few (z ∷ values) (n ∷ levels) = omega (arith, marks_few values levels)

values_in : (values : List ℤ) → ((i : ℕ) (z : ℤ) → slice_get values i ≡ Some z → IsValue z) → AllByRecursion IsValue values
values_in [] h = tt
values_in (z ∷ values) h = (h 0 z refl, values_in values (λ i y e. h (suc i) y e))

levels_in : (levels : List ℕ) → ((i : ℕ) → i < length levels → slice_index levels i ≤ 4) → AllByRecursion (λ l. l ≤ 4) levels
levels_in [] h = tt
levels_in (l ∷ levels) h = (h 0 (omega arith), levels_in levels (λ i lt. h (suc i) (omega arith)))

-- so many lines of at most 64 bytes
lines_few : {X : Type 0} (f : X → Text) (P : X → Type 0) → ((x : X) → P x → length (f x) ≤ 64) → (xs : List X) → AllByRecursion P xs → length (flat_map f xs) ≤ 64 * length xs
lines_few f P h [] all = omega arith
lines_few f P h (x ∷ xs) all = omega (arith, length-append (f x) (flat_map f xs), h x all.0, lines_few f P h xs all.1)

band_is_short : (kind : Kind) (band : Band) → IsBand band → length (band_line kind band.from band.upto band.level) ≤ 64
band_is_short kind band h = band_short kind band.from band.upto band.level h.from h.upto (let l = h.level in omega arith)

-- an answer that gives no value
abbrev IsNotTo : Resolution → Type 0
IsNotTo Keep = Unit {0}
IsNotTo (To z) = ⊥
IsNotTo Nothing = Unit {0}

-- the value of an answer
abbrev value_or : Resolution → ℤ → ℤ
value_or Keep other = other
value_or (To z) other = z
value_or Nothing other = other

module _ (s : Settings) (p : Picture) (ok : IsAccepted s) where
  value_in : (kind : Kind) (i : ℕ) (z : ℤ) → slice_get (values_of kind s) i ≡ Some z → IsValue z
  value_in kind i z e =
      let there = value_there kind s i ok (slice_get_within (values_of kind s) i z e) in
      let w = value_of_kind kind _ there.in_range in
      let same : Some _ ≡ Some z = sym there.there ∙ e in
      subst IsValue (ap (λ (o : Option ℤ). unwrap_or o z) same) w

  kind_short : (kind : Kind) (bands : List Band) → AreKindBands (CoveredAt s p) (length s.levels) s kind bands
      → length (flat_map (λ band. band_line kind band.from band.upto band.level) bands) ≤ 64 * length (values_of kind s)
  kind_short kind bands are =
      let values = values_of kind s in
      let few = ok.few_levels in
      let levels = levels_in are.levels (λ i lt. let w = (are.shown.greatest i lt).within in omega arith) in
      let marks = marks_in values are.levels (values_in values (value_in kind)) levels in
      let in' = bands_in (zip values are.levels) bands are.are.stretches marks in
      omega (
        arith,
        lines_few (λ band. band_line kind band.from band.upto band.level) IsBand (band_is_short kind) bands in',
        bands_few (zip values are.levels) bands are.are.stretches,
        marks_few values are.levels,
      )

  resolution_in : (kind : Kind) (side : Side) (resolution : Resolution) → IsResolution (CoveredAt s p) s p.own kind side resolution → (z : ℤ) → resolution ≡ To z → IsValue z
  resolution_in kind side Keep h z e = absurd (subst IsNotTo e tt)
  resolution_in kind side (To y) h z e = value_in kind h.1.0 z (h.1.1.value_is ∙ ap (λ (r : Resolution). Some (value_or r y)) e)
  resolution_in kind side Nothing h z e = absurd (subst IsNotTo e tt)

  resolutions_short : (kind : Kind) (answers : Side → Resolution) → ((side : Side) → IsResolution (CoveredAt s p) s p.own kind side (answers side))
      → length (resolve_line kind (answers Lower) (answers Upper)) ≤ 52
  resolutions_short kind answers h = resolve_short kind (answers Lower) (answers Upper) (resolution_in kind Lower (answers Lower) (h Lower)) (resolution_in kind Upper (answers Upper) (h Upper))

  last_in : (kind : Kind) (found : Option ℕ) → IsLastTime s p kind found → (n : ℕ) → found ≡ Some n → n < 180
  last_in kind None is n e = absurd (cc e)
  last_in kind (Some m) is n e =
      let a = is.ahead in
      let few = (ok.level a.number a.level a.closes.there).lookahead_most in
      let soon : m < 180 = let b = is.last.before in let e' = a.reached in omega arith in
      subst (λ (i : ℕ). i < 180) (ap (λ (o : Option ℕ). unwrap_or o n) e) soon

  last_line_short : (kind : Kind) (text : Text) → IsLastText s p true Nothing kind text → length text ≤ 24
  last_line_short kind text (found, is, e) = omega (arith, ap length e, last_short kind found (last_in kind found is))

  last_text_short : (asked : Bool) (answer : Resolution) (kind : Kind) (text : Text) → IsLastText s p asked answer kind text → length text ≤ 24
  last_text_short false answer kind text e = omega (arith, ap length e)
  last_text_short true Keep kind text e = omega (arith, ap length e)
  last_text_short true (To z) kind text is = last_line_short kind text is
  last_text_short true Nothing kind text is = last_line_short kind text is

  recovery_in : (kind : Kind) (found : Option Recovery) → IsRecovery s p kind found → (pair : ℕ × ℤ) → option_map found_of found ≡ Some pair → IsFoundShort pair
  recovery_in kind None is pair e = absurd (cc e)
  recovery_in kind (Some r) is pair e =
      let least = is.found in
      let a = is.ahead in
      let few = (ok.level a.number a.level a.closes.there).lookahead_most in
      let soon : r.after < 2 ^ 32 = let b = least.before in let e' = a.reached in omega arith in
      let short : IsFoundShort (found_of r) = record { soon = soon; fits = value_in kind least.index r.value least.recovers.there } in
      subst IsFoundShort (ap (λ (o : Option (ℕ × ℤ)). unwrap_or o pair) e) short

  recovery_short : (asked : Bool) (lower upper : Resolution) (kind : Kind) (text : Text) → IsRecoveryText s p asked lower upper kind text → length text ≤ 64
  recovery_short false lower upper kind text e = omega (arith, ap length e)
  recovery_short true Keep upper kind text e = omega (arith, ap length e)
  recovery_short true (To z) upper kind text e = omega (arith, ap length e)
  recovery_short true Nothing Keep kind text e = omega (arith, ap length e)
  recovery_short true Nothing (To z) kind text e = omega (arith, ap length e)
  recovery_short true Nothing Nothing kind text (found, is, e) =
      omega (arith, ap length e, recover_short kind (option_map found_of found) (recovery_in kind found is))

  leg_in : (t : Traffic) (alert : Alert) → IsAlertOf s p.own t alert → (leg : ℕ) → alert.first ≡ Some leg → leg < 2 ^ 32
  leg_in t alert a leg e =
      let f : MatchOption (Some leg) (alert.level ≡ 0) (IsFirstLeg s p.own t alert.level) = subst (λ (o : Option ℕ). MatchOption o (alert.level ≡ 0) (IsFirstLeg s p.own t alert.level)) e a.first in
      let b = (ok.level alert.level f.level f.there).alert_most in
      let i = f.in_time in
      omega arith

  aircraft_short : (t : Traffic) → IsTrafficInRange t → (text : Text) → AreAircraftLines s p t text → length text ≤ 128
  aircraft_short t r text is =
      let few = ok.few_levels in let now = is.now in let alert = is.alert in let e = is.text_is in
      let w = is.now_is.within in
      let v = is.alert_is.greatest.within in
      let i = few_of_id t.id r.id in
      omega (
        arith,
        ap length e,
        length-append (numbers_line (codes "now " ++ t.id) (now ∷ [])) (alert_line t.id alert.level alert.first),
        now_short t.id now i (omega arith),
        alert_short t.id alert.level alert.first i (omega arith) (leg_in t alert is.alert_is),
      )

  alerts_short : (ts : List Traffic) → AllByRecursion IsTrafficInRange ts → (text : Text) → SplitsByEach (AreAircraftLines s p) ts text → length text ≤ 128 * length ts
  alerts_short [] r text e = omega (arith, ap length e)
  alerts_short (t ∷ ts) r text is =
      let e = ap length is.joined ∙ length-append is.first is.second in
      omega (arith, e, aircraft_short t r.0 is.first is.first_is, alerts_short ts r.1 is.second is.second_is)

  pub text_short : IsPictureInRange p → p.time < 2 ^ 32 → (text : Text) → IsMomentText s p text → length text ≤ longest_moment
  text_short r t text is =
      let alerts = is.alerts in let answers = is.answers in let lasts = is.lasts in let recoveries = is.recoveries in
      let bands : Kind → Text = λ kind. flat_map (λ band. band_line kind band.from band.upto band.level) (is.bands kind) in
      let resolutions : Kind → Text = λ kind. resolve_line kind (answers kind Lower) (answers kind Upper) in
      let bt = bands Track in let bs = bands GroundSpeed in let bc = bands VerticalSpeed in let bh = bands Altitude in
      let at = resolutions Track in let as' = resolutions GroundSpeed in let ac = resolutions VerticalSpeed in let ah = resolutions Altitude in
      let lt = lasts Track in let ls = lasts GroundSpeed in let lc = lasts VerticalSpeed in let lh = lasts Altitude in
      let rt = recoveries Track in let rs = recoveries GroundSpeed in let rc = recoveries VerticalSpeed in let rh = recoveries Altitude in
      let m = numbers_line (codes "moment") (p.time ∷ []) in let d = numbers_line (codes "done") (p.time ∷ []) in
      omega (
        arith,
        ap length is.text_is,
        r.count,
        moment_short p.time t,
        done_short p.time t,
        alerts_short (aircraft_of p) (recursion_from_All IsTrafficInRange (aircraft_of p) r.traffic) alerts is.alerts_are,
        kind_short Track (is.bands Track) (is.bands_are Track),
        kind_short GroundSpeed (is.bands GroundSpeed) (is.bands_are GroundSpeed),
        kind_short VerticalSpeed (is.bands VerticalSpeed) (is.bands_are VerticalSpeed),
        kind_short Altitude (is.bands Altitude) (is.bands_are Altitude),
        resolutions_short Track (answers Track) (is.answers_are Track),
        resolutions_short GroundSpeed (answers GroundSpeed) (is.answers_are GroundSpeed),
        resolutions_short VerticalSpeed (answers VerticalSpeed) (is.answers_are VerticalSpeed),
        resolutions_short Altitude (answers Altitude) (is.answers_are Altitude),
        last_text_short s.last_times (answers Track Lower) Track lt (is.lasts_are Track),
        last_text_short s.last_times (answers GroundSpeed Lower) GroundSpeed ls (is.lasts_are GroundSpeed),
        last_text_short s.last_times (answers VerticalSpeed Lower) VerticalSpeed lc (is.lasts_are VerticalSpeed),
        last_text_short s.last_times (answers Altitude Lower) Altitude lh (is.lasts_are Altitude),
        recovery_short (is_some s.recovery) (answers Track Lower) (answers Track Upper) Track rt (is.recoveries_are Track),
        recovery_short (is_some s.recovery) (answers GroundSpeed Lower) (answers GroundSpeed Upper) GroundSpeed rs (is.recoveries_are GroundSpeed),
        recovery_short (is_some s.recovery) (answers VerticalSpeed Lower) (answers VerticalSpeed Upper) VerticalSpeed rc (is.recoveries_are VerticalSpeed),
        recovery_short (is_some s.recovery) (answers Altitude Lower) (answers Altitude Upper) Altitude rh (is.recoveries_are Altitude),
        length-values Track s,
        length-values GroundSpeed s,
        length-values VerticalSpeed s,
        length-values Altitude s,
        few_tracks s,
        few_of_kind s GroundSpeed ok,
        few_of_kind s VerticalSpeed ok,
        few_of_kind s Altitude ok,
        length-append m (alerts ++ (of_each bands ++ (of_each resolutions ++ (of_each lasts ++ (of_each recoveries ++ d))))),
        length-append alerts (of_each bands ++ (of_each resolutions ++ (of_each lasts ++ (of_each recoveries ++ d)))),
        length-append (of_each bands) (of_each resolutions ++ (of_each lasts ++ (of_each recoveries ++ d))),
        length-append (of_each resolutions) (of_each lasts ++ (of_each recoveries ++ d)),
        length-append (of_each lasts) (of_each recoveries ++ d),
        length-append (of_each recoveries) d,
        length-append bt (bs ++ (bc ++ bh)),
        length-append bs (bc ++ bh),
        length-append bc bh,
        length-append at (as' ++ (ac ++ ah)),
        length-append as' (ac ++ ah),
        length-append ac ah,
        length-append lt (ls ++ (lc ++ lh)),
        length-append ls (lc ++ lh),
        length-append lc lh,
        length-append rt (rs ++ (rc ++ rh)),
        length-append rs (rc ++ rh),
        length-append rc rh,
      )
