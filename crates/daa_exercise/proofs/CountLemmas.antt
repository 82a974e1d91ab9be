-- What is counted of one moment more.
use Rattle.std.proofs.Common.{◌≡◌, ◌∙◌, ◌⊎◌, inl, inr, ◌<◌, ◌≤◌, ◌+◌, ℕ, zero, suc, List, [], ◌∷◌, ◌++◌, length, map, take, refl, sym, ap, arith, subst}
use Rattle.std.proofs.Common.{add-one, append-nil, append_assoc, zero-add, length-append}
use Rattle.std.specs.Prelude.{Option, Result, slice_index, ◌==◌}
use Rattle.std.specs.List.{count_by, range_with_len}
use Rattle.std.proofs.lemmas.Bool.{cases_lt}
use Rattle.std.proofs.lemmas.List.{get_or_past}
use Rattle.std.proofs.lemmas.List.FromFn.{get_or-map-range_with_len, length-map-range_with_len, map-range_with_len_more, sum_by-map-range_with_len_more, take-map-range_with_len}
use Rattle.std.proofs.lemmas.List.Sums.{count_by-le-length}
use Rattle.std.proofs.lemmas.Slice.Zip.{AllZip-long}
use Rattle.daa_bands.specs.Board.{HasLevelOn, IsBoardOf, mask_levels}
use Rattle.daa_bands.specs.KindBands.{AreShown}
use Rattle.daa_bands.specs.Parts.{SplitsByEach}
use Rattle.daa_bands.proofs.KindLemmas.{greatest_covered}
use Rattle.daa_config.specs.Candidates.{start_of}
use Rattle.daa_config.specs.Settings.{Settings, IsAccepted}
use Rattle.daa_config.specs.declared.kind.Kind.{Kind}
use Rattle.daa_config.specs.declared.kind.Kind.TheVariants.{Track, GroundSpeed, VerticalSpeed, Altitude}
use Rattle.daa_config.proofs.CandidateLemmas.{kind_within}
use Rattle.daa_config.proofs.GridLemmas.{few_of_kind, length-values}
use Rattle.daa_legs.specs.Alerts.{IsAlertLevel}
use Rattle.daa_state.specs.InRange.{IsPictureInRange}
use Rattle.daa_state.specs.Picture.{aircraft_of}
use Rattle.daa_state.specs.declared.word.Picture.{Picture}
use Rattle.daa_report.specs.Says.{Says, SaysSome}
use Rattle.daa_engine.specs.Covered.{CoveredAt}
use Rattle.daa_exercise.specs.Inside.Counting.{Adds, AreCounted, AreLevelsFrom, CountsPicture, HasAlerts, HasCounted, HasRoomFor, HasShown, IsRoomy}
use Rattle.daa_exercise.specs.Inside.Counting.{aircraft_from, aircraft_in, summary_text, tally_of, written}
use Rattle.daa_exercise.specs.Levels.{counts_of}
use Rattle.daa_exercise.specs.Moments.{moment_of}
use Rattle.daa_exercise.specs.Summary.{IsSummaryOf}
use Rattle.daa_exercise.specs.Inside.Drawing.{Outputs}
use Rattle.daa_exercise.specs.Outputs.{outputs_of}
use Rattle.daa_exercise.specs.declared.counting.Counts.{Counts}
use Rattle.daa_exercise.proofs.TallyLemmas.{room_for}

-- what a board shows is what is covered
pub add_covered : (s : Settings) (p : Picture) (board : List ℕ) (kind : Kind) (a b : List ℕ) → IsAccepted s → IsBoardOf (CoveredAt s p) s board
    → Adds (AreShown (HasLevelOn board) mask_levels s kind) a b → Adds (HasShown s p kind) a b
add_covered s p board kind a b ok is (here, are, more) = (
  here,
  record {
    each = are.each;
    greatest = λ i lt. greatest_covered (CoveredAt s p) s board ok is (start_of kind s + i) (slice_index here i)
        (let e = are.each in let w = kind_within kind s in omega arith) (are.greatest i lt);
  },
  more,
)

-- ---- no count is above the number of levels

-- how often a level is among levels
abbrev pub how_often : List ℕ → ℕ → ℕ
how_often levels level = count_by (λ other. other == level) levels

how_often_few : (levels : List ℕ) (level : ℕ) → how_often levels level ≤ length levels
how_often_few levels level = count_by-le-length (λ other. other == level) levels

pub count_few : (top level : ℕ) (levels : List ℕ) → slice_index (counts_of top levels) level ≤ length levels
unfolding counts_of
count_few top level levels = go (cases_lt level (top + 1))
  where
    go : (level < top + 1) ⊎ (top + 1 ≤ level) → slice_index (map (how_often levels) (range_with_len 0 (top + 1))) level ≤ length levels
    go (inl lt) =
        let e = get_or-map-range_with_len (how_often levels) 0 (top + 1) level level 0 lt (zero-add level) in
        let h = how_often_few levels level in
        omega (arith, e, h)
    go (inr past) =
        let n = length-map-range_with_len (how_often levels) 0 (top + 1) in
        let e = get_or_past (map (how_often levels) (range_with_len 0 (top + 1))) level 0 (omega (arith, n, past)) in
        omega (arith, e)

-- ---- one moment more

module _ (Has : Picture → List ℕ → Type 0) (output : Outputs) (time : ℕ) where
  pub counted_next : (count : ℕ) (picture : Picture) (a b : List ℕ) → ((levels : List ℕ) → Has picture levels → length levels ≤ 512)
      → picture ≡ moment_of output (time + count) → HasCounted Has output time count a → Adds (Has picture) a b → HasCounted Has output time (count + 1) b
  counted_next count picture a b most is h (here, has, more) = record {
    levels = h.levels ++ here;
    are = subst (λ (n : ℕ). AreLevelsFrom Has output time n (h.levels ++ here)) (sym (add-one count)) (record {
      first = h.levels;
      second = here;
      first_is = h.are;
      second_is = subst (λ (p : Picture). Has p here) is has;
      joined = refl;
    });
    counted = more h.levels h.counted;
    few = (let m = most here has in let f = h.few in let e = length-append h.levels here in omega (arith, m, f, e));
  }

  pub room_of : (count : ℕ) (tally : List ℕ) → count < 10000 → HasCounted Has output time count tally → HasRoomFor 512 tally
  room_of count tally lt h level =
      let e = ap (λ (xs : List ℕ). slice_index xs level) h.counted in
      let m = count_few mask_levels level h.levels in
      let f = h.few in
      omega (arith, e, m, f)

pub alerts_few : (s : Settings) (p : Picture) → IsPictureInRange p → (levels : List ℕ) → HasAlerts s p levels → length levels ≤ 512
alerts_few s p in' levels has = let e = AllZip-long (IsAlertLevel s p.own) (aircraft_of p) levels has in let few = in'.count in omega (arith, e, few)

pub shown_few : (s : Settings) (p : Picture) (kind : Kind) → IsAccepted s → (levels : List ℕ) → HasShown s p kind levels → length levels ≤ 512
shown_few s p kind ok levels has = let e = has.each in let n = length-values kind s in let few = few_of_kind s kind ok in omega (arith, e, n, few)

pub aircraft_from_none : (output : Outputs) (time : ℕ) → aircraft_from output time 0 ≡ 0
unfolding aircraft_from
aircraft_from_none output time = refl

pub aircraft_from_next : (output : Outputs) (time count : ℕ)
    → aircraft_from output time (count + 1) ≡ aircraft_from output time count + length (aircraft_of (moment_of output (time + count)))
unfolding aircraft_from
aircraft_from_next output time count =
    sum_by-map-range_with_len_more (λ (p : Picture). length (aircraft_of p)) (moment_of output) time count (time + count) refl

pub all_next : (s : Settings) (output : Outputs) → IsAccepted s → (time count : ℕ) (picture : Picture) (old new : Counts) → IsPictureInRange picture
    → picture ≡ moment_of output (time + count) → AreCounted s output time count old → CountsPicture s picture old new → AreCounted s output time (count + 1) new
all_next s output ok time count picture old new in' is h k = record {
  aircraft = k.aircraft ∙ ap (λ (n : ℕ). n + length (aircraft_of picture)) h.aircraft
      ∙ ap (λ (p : Picture). aircraft_from output time count + length (aircraft_of p)) is ∙ sym (aircraft_from_next output time count);
  few = (let e = k.aircraft in let f = h.few in let m = in'.count in omega (arith, e, f, m));
  alerts = counted_next (HasAlerts s) output time count picture old.alerts new.alerts (alerts_few s picture in') is h.alerts k.alerts;
  track = counted_next (λ p. HasShown s p Track) output time count picture old.track new.track (shown_few s picture Track ok) is h.track k.track;
  speed = counted_next (λ p. HasShown s p GroundSpeed) output time count picture old.speed new.speed (shown_few s picture GroundSpeed ok) is h.speed k.speed;
  climb = counted_next (λ p. HasShown s p VerticalSpeed) output time count picture old.climb new.climb (shown_few s picture VerticalSpeed ok) is h.climb k.climb;
  height = counted_next (λ p. HasShown s p Altitude) output time count picture old.height new.height (shown_few s picture Altitude ok) is h.height k.height;
}

pub roomy : (s : Settings) (output : Outputs) (time count : ℕ) (counts : Counts) → count < 10000 → AreCounted s output time count counts → IsRoomy counts
roomy s output time count counts lt h = record {
  aircraft = (let f = h.few in omega (arith, f, lt));
  alerts = room_for 64 512 counts.alerts (omega arith) (room_of (HasAlerts s) output time count counts.alerts lt h.alerts);
  track = room_of (λ p. HasShown s p Track) output time count counts.track lt h.track;
  speed = room_of (λ p. HasShown s p GroundSpeed) output time count counts.speed lt h.speed;
  climb = room_of (λ p. HasShown s p VerticalSpeed) output time count counts.climb lt h.climb;
  height = room_of (λ p. HasShown s p Altitude) output time count counts.height lt h.height;
}

-- ---- what is written of the counts is the summary

upto_top : (top : ℕ) (levels : List ℕ) → top ≤ 8 → take (top + 1) (counts_of mask_levels levels) ≡ counts_of top levels
unfolding counts_of
upto_top top levels few = take-map-range_with_len (how_often levels) 0 9 (top + 1) (omega arith)

-- the moments from the first on
abbrev first_moments : Outputs → ℕ → List Picture
first_moments output count = map (moment_of output) (range_with_len 0 count)

moments_more : (output : Outputs) (count : ℕ) → first_moments output (suc count) ≡ first_moments output count ++ moment_of output count ∷ []
moments_more output count =
    ap (first_moments output) (sym (add-one count)) ∙ map-range_with_len_more (moment_of output) 0 count count (zero-add count)

module _ (Has : Picture → List ℕ → Type 0) where
  -- one part more
  part_more : (pictures : List Picture) (picture : Picture) (levels part all : List ℕ) → SplitsByEach Has pictures levels → Has picture part → all ≡ levels ++ part
      → SplitsByEach Has (pictures ++ picture ∷ []) all
  part_more [] picture levels part all none is joined = record {
    first = part;
    second = [];
    first_is = is;
    second_is = refl;
    joined = joined ∙ ap (λ (xs : List ℕ). xs ++ part) none ∙ sym (append-nil part);
  }
  part_more (p ∷ pictures) picture levels part all are is joined = record {
    first = are.first;
    second = are.second ++ part;
    first_is = are.first_is;
    second_is = part_more pictures picture are.second part (are.second ++ part) are.second_is is refl;
    joined = joined ∙ ap (λ (xs : List ℕ). xs ++ part) are.joined ∙ append_assoc are.first are.second part;
  }

  first_levels : (output : Outputs) (count : ℕ) (levels : List ℕ) → AreLevelsFrom Has output 0 count levels → SplitsByEach Has (first_moments output count) levels
  first_levels output zero levels e = e
  first_levels output (suc count) levels are =
      let here : Has (moment_of output count) are.second = subst (λ (t : ℕ). Has (moment_of output t) are.second) (zero-add count) are.second_is in
      subst (λ (pictures : List Picture). SplitsByEach Has pictures levels) (sym (moments_more output count))
      (part_more (first_moments output count) (moment_of output count) are.first are.second levels (first_levels output count are.first are.first_is) here are.joined)

first_aircraft : (output : Outputs) (count : ℕ) → aircraft_from output 0 count ≡ aircraft_in (first_moments output count)
unfolding aircraft_from
first_aircraft output count = refl

module _ (s : Settings) (seed moments : ℕ) (counts : Counts) (h : AreCounted s (outputs_of seed) 0 moments counts) where
  shown : Kind → List ℕ
  shown Track = h.track.levels
  shown GroundSpeed = h.speed.levels
  shown VerticalSpeed = h.climb.levels
  shown Altitude = h.height.levels

  abbrev pictures : List Picture
  pictures = first_moments (outputs_of seed) moments

  are_shown : (kind : Kind) → SplitsByEach (λ (picture : Picture). HasShown s picture kind) pictures (shown kind)
  unfolding shown
  are_shown Track = first_levels (λ p. HasShown s p Track) (outputs_of seed) moments h.track.levels h.track.are
  are_shown GroundSpeed = first_levels (λ p. HasShown s p GroundSpeed) (outputs_of seed) moments h.speed.levels h.speed.are
  are_shown VerticalSpeed = first_levels (λ p. HasShown s p VerticalSpeed) (outputs_of seed) moments h.climb.levels h.climb.are
  are_shown Altitude = first_levels (λ p. HasShown s p Altitude) (outputs_of seed) moments h.height.levels h.height.are

  tallied : (kind : Kind) → tally_of counts kind ≡ counts_of mask_levels (shown kind)
  unfolding shown
  tallied Track = h.track.counted
  tallied GroundSpeed = h.speed.counted
  tallied VerticalSpeed = h.climb.counted
  tallied Altitude = h.height.counted

  -- the counts up to the top level
  counted_upto : (top : ℕ) (tally levels : List ℕ) → top ≡ length s.levels → top ≤ 8 → tally ≡ counts_of mask_levels levels
      → take (top + 1) tally ≡ counts_of (length s.levels) levels
  counted_upto top tally levels e few is = ap (take (top + 1)) is ∙ upto_top top levels few ∙ ap (λ (n : ℕ). counts_of n levels) e

  text_is : (top : ℕ) → top ≡ length s.levels → top ≤ 8
      → written seed moments top counts
      ≡ summary_text seed moments (aircraft_in pictures) (counts_of (length s.levels) h.alerts.levels) (λ kind. counts_of (length s.levels) (shown kind))
  text_is top e few =
      let alerts = counted_upto top counts.alerts h.alerts.levels e few h.alerts.counted in
      let kinds : (kind : Kind) → take (top + 1) (tally_of counts kind) ≡ counts_of (length s.levels) (shown kind) = λ kind.
      counted_upto top (tally_of counts kind) (shown kind) e few (tallied kind) in
      let count = h.aircraft ∙ first_aircraft (outputs_of seed) moments in
      λ i. summary_text seed moments (count i) (alerts i) (λ kind. kinds kind i)

  pub is_summary : (top : ℕ) → IsAccepted s → top ≡ length s.levels → IsSummaryOf s seed moments (written seed moments top counts)
  unfolding summary_text
  is_summary top ok e = record {
    pictures = pictures;
    alerts = h.alerts.levels;
    shown = shown;
    pictures_are = refl;
    alerts_are = first_levels (HasAlerts s) (outputs_of seed) moments h.alerts.levels h.alerts.are;
    shown_are = are_shown;
    text_is = text_is top e (let few = ok.few_levels in omega (arith, e, few));
  }

-- ---- all moments are counted, and the text is said

pub said : {E : Type 0} (s : Settings) (seed moments top : ℕ) (counts : Counts) (piece items : List ℕ) (a b : Option (List ℕ)) (x y : ℕ) (r : Result (Unit {0}) E)
    → IsAccepted s → top ≡ length s.levels → AreCounted s (outputs_of seed) 0 moments counts → piece ≡ items
    → items ≡ written seed moments top counts → Says {E = E} a b x y piece r → SaysSome {E = E} (IsSummaryOf s seed moments) a b x y r
said {E} s seed moments top counts piece items a b x y r ok e h same is told = (
  written seed moments top counts,
  is_summary s seed moments counts h top ok e,
  subst (λ (t : List ℕ). Says {E = E} a b x y t r) (same ∙ is) told,
)
