-- Aircraft that are taken one after the other.
use Rattle.std.proofs.Common.{ℕ, ℤ, pos, ◌≡◌, ◌<◌, ◌≤◌, ◌+◌, ◌++◌, ◌∙◌, ◌&&◌, Bool, true, false, List, [], ◌∷◌, length, Some, None, below_more, refl, sym, subst, take, slice_index_or, drop, ap, arith}
use Rattle.std.specs.Prelude.{Option, nat_lt, slice_get, All, int_le, ◌≤ℤ◌, if◌then◌else◌}
use Rattle.std.proofs.lemmas.Int.{ints}
use Rattle.std.proofs.lemmas.Option.{slice_get_within, slice_get-get_or}
use Rattle.std.proofs.lemmas.List.{take_more, take_all, drop_more, drop_all}
use Rattle.std.proofs.lemmas.Bool.{lt-ltb, le-ltb}
use Rattle.std.proofs.lemmas.List.Elements.{All-nil, All-from_get_or}
use Rattle.daa_state.specs.Checked.{bounds_of, is_within, out_of_range, first_out_of_range, own_numbers, traffic_numbers, with_bounds, IsTakenAt}
use Rattle.daa_state.specs.Checked.{AreTaken, fault_at, earlier, fault_from, own_fault, picture_fault_of}
use Rattle.daa_state.specs.Id.{is_id}
use Rattle.daa_state.specs.InRange.{IsWithin, IsErrorBound, AreReportBoundsInRange, IsOwnInRange, IsTrafficInRange}
use Rattle.daa_state.specs.Ranges.{Bounds, error_bounds}
use Rattle.daa_state.specs.declared.checked.Number.{Number}
use Rattle.daa_state.specs.declared.checked.OutOfRange.{OutOfRange}
use Rattle.daa_state.specs.declared.checked.PictureFault.{PictureFault}
use Rattle.daa_state.specs.declared.checked.PictureFault.TheVariants as says
use Rattle.daa_state.specs.declared.word.Own.{Own}
use Rattle.daa_state.specs.declared.word.ReportBounds.{ReportBounds}
use Rattle.daa_state.specs.declared.word.Traffic.{Traffic}

abbrev pub IsTaken : List Traffic → ℕ → Type 0
IsTaken traffic place = (aircraft : Traffic) → slice_get traffic place ≡ Some aircraft → IsTakenAt traffic place aircraft

-- those before a place
abbrev pub AreTakenBelow : List Traffic → ℕ → Type 0
AreTakenBelow traffic count = (place : ℕ) → place < count → IsTaken traffic place

pub below-none : (traffic : List Traffic) → AreTakenBelow traffic 0
below-none traffic place below = absurd (omega (arith, below))

pub below-more : (traffic : List Traffic) (count : ℕ) → AreTakenBelow traffic count → IsTaken traffic count → AreTakenBelow traffic (count + 1)
below-more traffic count before last place below = below_more (IsTaken traffic) count before last place below

pub below-all : (traffic : List Traffic) → AreTakenBelow traffic (length traffic) → AreTaken traffic
below-all traffic below place aircraft there = below place (slice_get_within traffic place aircraft there) aircraft there

pub taken-range : (traffic : List Traffic) → AreTaken traffic → All IsTrafficInRange traffic
taken-range [] taken = All-nil IsTrafficInRange
taken-range (first ∷ others) taken =
    let all : List Traffic = first ∷ others in
    All-from_get_or IsTrafficInRange all first (λ place within. (taken place _ (slice_get-get_or all place first within)).range)

-- ---- numbers

is-within : (range : Bounds) (n : ℤ) → is_within range n ≡ true → IsWithin range n
is-within range n = go (int_le range.low n) (int_le n range.high) refl refl
  where
    go : (a b : Bool) → int_le range.low n ≡ a → int_le n range.high ≡ b → a && b ≡ true → IsWithin range n
    go true true e f h = (grind (arith, ints), grind (arith, ints))
    go true false e f h = absurd (cc h)
    go false b e f h = absurd (cc h)

abbrev AreWithin : List Number → Type 0
AreWithin [] = Unit {0}
AreWithin (n ∷ others) = IsWithin (bounds_of n.field) n.number × AreWithin others

first-within : (n : Number) (others : List Number) (b : Bool) → is_within (bounds_of n.field) n.number ≡ b
    → (if b then first_out_of_range others else Some (out_of_range n.field)) ≡ None → IsWithin (bounds_of n.field) n.number × (first_out_of_range others ≡ None)
first-within n others true e none = (is-within (bounds_of n.field) n.number e, none)
first-within n others false e none = absurd (cc none)

none_out_of_range : (numbers : List Number) → first_out_of_range numbers ≡ None → AreWithin numbers
unfolding first_out_of_range
none_out_of_range [] none = tt
none_out_of_range (n ∷ others) none =
    let parts = first-within n others (is_within (bounds_of n.field) n.number) refl none in
    (parts.0, none_out_of_range others parts.1)

pub own_range : (own : Own) → first_out_of_range (own_numbers own) ≡ None → IsOwnInRange own
own_range own none =
    let all = none_out_of_range (own_numbers own) none in
    record { x = all.0; y = all.1.0; alt = all.1.1.0; trk = all.1.1.1.0; gs = all.1.1.1.1.0; vs = all.1.1.1.1.1.0 }

error_bound : (n : ℕ) → IsWithin error_bounds (pos n) → IsErrorBound n
error_bound n h = let small : pos n ≤ℤ pos 10000 = h.1 in omega (arith, ints, small)

report_bounds : (bounds : ReportBounds) (others : List Number) → AreWithin (with_bounds bounds others) → AreReportBoundsInRange bounds
report_bounds bounds others all = record {
  place = error_bound bounds.place all.0;
  height = error_bound bounds.height all.1.0;
  speed = error_bound bounds.speed all.1.1.0;
  climb = error_bound bounds.climb all.1.1.1.0;
}

pub traffic_range : (aircraft : Traffic) → is_id aircraft.id ≡ true → first_out_of_range (traffic_numbers aircraft) ≡ None → IsTrafficInRange aircraft
traffic_range aircraft id none =
    let all = none_out_of_range (traffic_numbers aircraft) none in
    record {
      id = id;
      x = all.0;
      y = all.1.0;
      alt = all.1.1.0;
      vx = all.1.1.1.0;
      vy = all.1.1.1.1.0;
      vs = all.1.1.1.1.1.0;
      age = (let young : pos aircraft.age ≤ℤ pos 60 = all.1.1.1.1.1.1.0.1 in omega (arith, ints, young));
      bounds = record {
        own = report_bounds aircraft.bounds.own (with_bounds aircraft.bounds.aircraft []) all.1.1.1.1.1.1.1;
        aircraft = report_bounds aircraft.bounds.aircraft [] all.1.1.1.1.1.1.1.1.1.1.1;
      };
    }

-- ---- a picture

-- one aircraft more
pub next_aircraft : (traffic all longer : List Traffic) (count : ℕ) (aircraft : Traffic) → count < length traffic
    → all ≡ take count traffic → aircraft ≡ slice_index_or traffic count aircraft → longer ≡ all ++ aircraft ∷ [] → longer ≡ take (count + 1) traffic
next_aircraft traffic all longer count aircraft within so_far is grown =
    let one : take (count + 1) traffic ≡ take count traffic ++ slice_index_or traffic count aircraft ∷ [] = take_more traffic count aircraft within in
    cc (one, so_far, is, grown)

-- all of them
pub whole : (traffic all : List Traffic) (count : ℕ) → length traffic ≤ count → all ≡ take count traffic → all ≡ traffic
whole traffic all count past so_far = so_far ∙ take_all count traffic past

pub taken_whole : (traffic all : List Traffic) (count : ℕ) → length traffic ≤ count → count ≤ length traffic → all ≡ take count traffic
    → AreTakenBelow traffic count → AreTaken all
taken_whole traffic all count past within so_far taken =
    let ends : count ≡ length traffic = omega (arith, past, within) in
    subst AreTaken (sym (whole traffic all count past so_far)) (below-all traffic (subst (AreTakenBelow traffic) ends taken))

-- ---- why it is none

-- what is wrong from a place on is what is wrong at it, or else further on
from-place : (traffic : List Traffic) (place : ℕ) (d : Traffic) → place < length traffic
    → fault_from traffic place (drop place traffic)
    ≡ earlier (fault_at traffic place (slice_index_or traffic place d)) (fault_from traffic (place + 1) (drop (place + 1) traffic))
unfolding fault_from
from-place traffic place d within = ap (fault_from traffic place) (drop_more traffic place d within)

-- nothing is wrong at a place
pub fault_passed : (traffic : List Traffic) (place : ℕ) (d : Traffic) (all : Option PictureFault) → place < length traffic
    → ((t : Traffic) → slice_get traffic place ≡ Some t → fault_at traffic place t ≡ None)
    → fault_from traffic place (drop place traffic) ≡ all → fault_from traffic (place + 1) (drop (place + 1) traffic) ≡ all
fault_passed traffic place d all within none so_far =
    let rest : Option PictureFault = fault_from traffic (place + 1) (drop (place + 1) traffic) in
    let here = none (slice_index_or traffic place d) (slice_get-get_or traffic place d within) in
    sym (ap (λ (f : Option PictureFault). earlier f rest) here) ∙ sym (from-place traffic place d within) ∙ so_far

-- something is wrong at a place
pub fault_found : (traffic : List Traffic) (place : ℕ) (fault : PictureFault) (all : Option PictureFault) → place < length traffic
    → ((t : Traffic) → slice_get traffic place ≡ Some t → fault_at traffic place t ≡ Some fault)
    → fault_from traffic place (drop place traffic) ≡ all → all ≡ Some fault
fault_found [] place fault all within found so_far = absurd (omega (arith, within))
fault_found (first ∷ others) place fault all within found so_far =
    let traffic : List Traffic = first ∷ others in
    let rest : Option PictureFault = fault_from traffic (place + 1) (drop (place + 1) traffic) in
    let here = found (slice_index_or traffic place first) (slice_get-get_or traffic place first within) in
    sym so_far ∙ from-place traffic place first within ∙ ap (λ (f : Option PictureFault). earlier f rest) here

-- nothing is wrong past the last
pub fault_past : (traffic : List Traffic) (place : ℕ) (all : Option PictureFault) → length traffic ≤ place
    → fault_from traffic place (drop place traffic) ≡ all → all ≡ None
unfolding fault_from
fault_past traffic place all past so_far = sym so_far ∙ ap (fault_from traffic place) (drop_all place traffic past)

pub fault_many : (own : Own) (traffic : List Traffic) → 64 < length traffic → picture_fault_of own traffic ≡ Some says.TooMany
unfolding picture_fault_of
fault_many own traffic many =
    let test : nat_lt 64 (length traffic) ≡ true = lt-ltb 64 (length traffic) many in
    rw test

pub fault_few : (own : Own) (traffic : List Traffic) → length traffic ≤ 64
    → picture_fault_of own traffic ≡ earlier (own_fault (first_out_of_range (own_numbers own))) (fault_from traffic 0 traffic)
unfolding picture_fault_of
fault_few own traffic few =
    let test : nat_lt 64 (length traffic) ≡ false = le-ltb 64 (length traffic) few in
    rw test

pub fault_own : (own : Own) (traffic : List Traffic) (fault : OutOfRange) → length traffic ≤ 64 → first_out_of_range (own_numbers own) ≡ Some fault
    → picture_fault_of own traffic ≡ Some (says.Own fault)
fault_own own traffic fault few wrong =
    fault_few own traffic few ∙ ap (λ (f : Option OutOfRange). earlier (own_fault f) (fault_from traffic 0 traffic)) wrong

pub fault_traffic : (own : Own) (traffic : List Traffic) → length traffic ≤ 64 → first_out_of_range (own_numbers own) ≡ None
    → picture_fault_of own traffic ≡ fault_from traffic 0 traffic
fault_traffic own traffic few sound =
    fault_few own traffic few ∙ ap (λ (f : Option OutOfRange). earlier (own_fault f) (fault_from traffic 0 traffic)) sound
