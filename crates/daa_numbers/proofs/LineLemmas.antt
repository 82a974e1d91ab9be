-- Identifiers in eight bytes, aircraft that lines add one after the other, and the end of a moment.
use Rattle.std.proofs.Common.{◌≡◌, ◌≢◌, ◌<◌, ◌+◌, ◌++◌, ◌∷◌, [], ◌∙◌, Bool, true, ℕ, zero, suc, List, Some, Ok, length, map, min, take, drop, slice_set, sym, ap, refl, arith, false}
use Rattle.std.specs.Prelude.{replicate, ◌||◌}
use Rattle.std.specs.List.{list_all, list_any}
use Rattle.std.specs.Str.{bytes_eq}
use Rattle.std.proofs.lemmas.Bool.{and_parts}
use Rattle.std.proofs.lemmas.Bool.Decides.{nat_tests}
use Rattle.std.proofs.lemmas.List.{drop-replicate, map_push, take_min, take_more_set}
use Rattle.daa_state.specs.Bounds.{no_error}
use Rattle.daa_state.specs.Fault.{Checked}
use Rattle.daa_state.specs.Id.{is_id, is_id_byte}
use Rattle.daa_state.specs.InRange.{IsWordInRange}
use Rattle.daa_state.specs.MomentStep.{Stepped, step, stepped, beside, ended_picture, has_id}
use Rattle.daa_state.specs.declared.word.Traffic.{Traffic}
use Rattle.daa_state.specs.declared.word.Word.{Word}
use Rattle.daa_state.specs.declared.word.Word.TheVariants as says
use Rattle.daa_numbers.specs.Inside.Lines.{IsOfEarlyFormat}
use Rattle.daa_numbers.specs.Lines.{lines_by, picture_if, asks_for_bounds}
use Rattle.daa_numbers.specs.States.{text_of, traffic_of}
use Rattle.daa_numbers.specs.declared.lines.DaaLines.{DaaLines}
use Rattle.daa_numbers.specs.declared.states.DaaTraffic.{DaaTraffic}
use Rattle.daa_numbers.proofs.TextLemmas.{goes_on}

-- ---- identifiers

not_zero : (byte : ℕ) → is_id_byte byte ≡ true → byte ≢ 0
not_zero zero allowed = absurd (cc allowed)
not_zero (suc n) allowed = λ is. absurd (cc is)

no_text : (n : ℕ) → text_of (replicate n 0) ≡ []
unfolding text_of
no_text zero = refl
no_text (suc n) = refl

padded : (bytes zeros : List ℕ) → list_all is_id_byte bytes ≡ true → text_of zeros ≡ [] → text_of (bytes ++ zeros) ≡ bytes
padded [] zeros all none = none
padded (b ∷ bytes) zeros all none =
    let parts = and_parts (is_id_byte b) (list_all is_id_byte bytes) all in
    goes_on b (bytes ++ zeros) (not_zero b parts.0) ∙ ap (λ (rest : List ℕ). b ∷ rest) (padded bytes zeros parts.1 none)

-- an identifier at the head of eight zeros
pub text_padded : (bytes copied : List ℕ) → copied ≡ bytes → is_id bytes ≡ true → text_of (copied ++ drop (length bytes) (replicate 8 0)) ≡ bytes
text_padded bytes copied same id =
    let zeros : text_of (drop (length bytes) (replicate 8 0)) ≡ [] = ap text_of (drop-replicate (length bytes) 8 0) ∙ no_text _ in
    ap (λ (front : List ℕ). text_of (front ++ drop (length bytes) (replicate 8 0))) same
    ∙ padded bytes (drop (length bytes) (replicate 8 0)) (and_parts _ _ id).1 zeros

-- ---- aircraft

pub named_any : (id : List ℕ) (numbers : List DaaTraffic) → list_any (λ (one : DaaTraffic). bytes_eq (text_of one.id) id) numbers ≡ has_id id (map traffic_of numbers)
named_any id [] = refl
named_any id (one ∷ numbers) = ap (λ (b : Bool). bytes_eq (text_of one.id) id || b) (named_any id numbers)

pub one_more_aircraft : (numbers : List DaaTraffic) (count : ℕ) (one : DaaTraffic) (aircraft : Traffic) → count < length numbers → traffic_of one ≡ aircraft
    → map traffic_of (take (count + 1) (slice_set numbers count one)) ≡ map traffic_of (take count numbers) ++ aircraft ∷ []
one_more_aircraft numbers count one aircraft within is =
    ap (map traffic_of) (take_more_set numbers count one within)
    ∙ map_push traffic_of (take count numbers) one
    ∙ ap (λ (t : Traffic). map traffic_of (take count numbers) ++ t ∷ []) is

pub named_within : (id : List ℕ) (numbers : List DaaTraffic) (count within : ℕ) → length numbers ≡ 64 → within ≡ min count 64
    → list_any (λ (one : DaaTraffic). bytes_eq (text_of one.id) id) (take within numbers) ≡ has_id id (map traffic_of (take count numbers))
named_within id numbers count within all is =
    let bound : within ≡ min count (length numbers) = is ∙ ap (λ (n : ℕ). min count n) (sym all) in
    let same : take within numbers ≡ take count numbers = ap (λ (n : ℕ). take n numbers) bound ∙ take_min count numbers in
    ap (λ (some : List DaaTraffic). list_any (λ (one : DaaTraffic). bytes_eq (text_of one.id) id) some) same ∙ named_any id (take count numbers)

-- ---- the end of a moment

-- what is taken as the truth is the same beside an ownship whose report is
beside_same : (numbers : List DaaTraffic) → map (beside no_error) (map traffic_of numbers) ≡ map traffic_of numbers
beside_same [] = refl
beside_same (one ∷ numbers) = ap (λ (items : List Traffic). traffic_of one ∷ items) (beside_same numbers)

above_zero : (n : ℕ) → n ≢ 0 → (less : ℕ) × (n ≡ suc less)
above_zero zero h = absurd (h refl)
above_zero (suc less) h = (less, refl)

-- the numbers after the end
abbrev pub ended_by : DaaLines → DaaLines
ended_by lines = record lines { ended = 1; last = lines.time; opened = 0 }

pub ends : (lines : DaaLines) → lines.opened ≢ 0 → lines.owned ≢ 0 → step (lines_by lines) says.End ≡ Ok (stepped (lines_by (ended_by lines)) (picture_if true (ended_by lines)))
unfolding step ended_picture
ends lines opened owned =
    rw ((above_zero lines.opened opened).1, (above_zero lines.owned owned).1)
    (ap (λ (items : List Traffic). ended (stepped (lines_by (ended_by lines)) (Some (record { time = lines.time; own = lines.own; traffic = record { items = items } }))))
    (beside_same (take lines.count lines.traffic)))
  where
    ended : Stepped → Checked Stepped
    ended next = Ok next

-- ---- formats

-- a format in range that is not 3
pub of_early_format : (word : Word) → IsWordInRange word → asks_for_bounds word ≡ false → IsOfEarlyFormat word
of_early_format (says.Moment time) range other = tt
of_early_format (says.Own own bounds) range other = tt
of_early_format (says.Traffic traffic) range other = tt
of_early_format (says.Format format) range other = grind (arith, nat_tests, range.1, other)
of_early_format says.End range other = tt
of_early_format says.Skip range other = tt
