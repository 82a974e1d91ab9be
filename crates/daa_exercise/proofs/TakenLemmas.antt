-- No word of a moment that is drawn is refused.
use Rattle.std.proofs.Common.{◌≡◌, ◌∙◌, ◌<◌, ◌≤◌, ◌+◌, ◌*◌, ◌^◌, ℕ, zero, suc, ℤ, pos, false, Option, Some, None, Ok, List, [], ◌∷◌, ◌++◌, length, map, refl, sym, ap, arith, add-zero, zero-add}
use Rattle.std.specs.Prelude.{All, IfSome, nat_le, ◌==◌}
use Rattle.std.specs.List.{range_with_len}
use Rattle.std.specs.Str.{bytes_eq}
use Rattle.std.proofs.lemmas.Bool.Decides.{nat_tests}
use Rattle.std.proofs.lemmas.Fmt.{decimal_digit}
use Rattle.std.proofs.lemmas.Int.{ints}
use Rattle.std.proofs.lemmas.List.Elements.{All-append, All-cons, All-from_recursion, All-map}
use Rattle.std.proofs.lemmas.List.Folds.{list_any_none}
use Rattle.std.proofs.lemmas.List.FromFn.{map-range_with_len_more}
use Rattle.daa_state.specs.InRange.{IsWithin, IsPictureInRange, IsWordInRange}
use Rattle.daa_state.specs.Bounds.{no_error}
use Rattle.daa_state.specs.MomentStep.{MomentsState, Stepped, step, stepped, begun_moment, with_own, with_traffic, beside, ended_picture, has_id, empty_moment}
use Rattle.daa_state.specs.Fault.{Checked, ◌>>=◌}
use Rattle.daa_state.specs.Ranges.{times}
use Rattle.daa_state.specs.declared.moments.Moment.{Moment}
use Rattle.daa_state.specs.declared.word.Own.{Own}
use Rattle.daa_state.specs.declared.word.Traffic.{Traffic}
use Rattle.daa_state.specs.declared.word.Picture.{Picture}
use Rattle.daa_state.specs.declared.word.Word.{Word}
use Rattle.daa_state.specs.declared.word.Word.TheVariants as says
use Rattle.daa_state.proofs.StepLemmas.{step-Traffic}
use Rattle.daa_state.proofs.WordRanges.{no_error-range}
use Rattle.daa_exercise.specs.Inside.Drawing.{Outputs, moment_at, name_of, traffic_at}
use Rattle.daa_exercise.specs.Moments.{own_at, count_at, aircraft_at}
use Rattle.daa_exercise.specs.Taken.{IsTaken, moment_words, steps}
use Rattle.daa_exercise.proofs.MoveLemmas.{picture_of, traffic_count}
use Rattle.daa_exercise.proofs.RangeLemmas.{aircraft_is, count_few, drawn_range}

-- ---- names differ

other_digit : (a b : ℕ) → a < b → (48 + a == 48 + b) ≡ false
other_digit a b lt = grind (arith, nat_tests)

other_bytes : (a b : ℕ) → a < b → bytes_eq (65 ∷ (48 + a) ∷ []) (65 ∷ (48 + b) ∷ []) ≡ false
other_bytes a b lt = rw (other_digit a b lt) refl

other_name : (a b : ℕ) → a < b → b < 10 → bytes_eq (name_of a) (name_of b) ≡ false
other_name a b lt few =
    ap (λ (xs : List ℕ). bytes_eq (65 ∷ xs) (name_of b)) (decimal_digit a (omega arith))
    ∙ ap (λ (xs : List ℕ). bytes_eq (65 ∷ (48 + a) ∷ []) (65 ∷ xs)) (decimal_digit b few)
    ∙ other_bytes a b lt

-- ---- steps

abbrev accepted : Stepped → Checked Stepped
accepted now = Ok now

steps_none : (now : Stepped) → steps now [] ≡ Ok now
unfolding steps
steps_none now = refl

steps_next : (now next : Stepped) (word : Word) (words : List Word) → step now.state word ≡ Ok next → steps now (word ∷ words) ≡ steps next words
unfolding steps
steps_next now next word words e = ap (λ (r : Checked Stepped). r >>= (λ after. steps after words)) e

begun : (moment : Option Moment) (last : Option ℕ) (time : ℕ) → moment ≡ None → IfSome last (λ l. l < time) → begun_moment moment last time ≡ Ok (empty_moment time)
unfolding begun_moment
begun (Some moment) last time e h = absurd (cc)
begun None None time e h = refl
begun None (Some last) time e h = rw (later last h) refl
  where
    later : (l : ℕ) → l < time → nat_le time l ≡ false
    later l lt = grind (arith, nat_tests)

begins : (state : MomentsState) (time : ℕ) → state.moment ≡ None → IfSome state.last (λ l. l < time)
    → step state (says.Moment time) ≡ Ok (stepped (record state { moment = Some (empty_moment time) }) None)
unfolding step
begins state time e h = rw (begun state.moment state.last time e h) refl

gets : (moment : Moment) (t : Traffic) → has_id t.id moment.traffic.items ≡ false → (length moment.traffic.items == 64) ≡ false
    → with_traffic (Some moment) t ≡ Ok (record moment { traffic = record { items = moment.traffic.items ++ t ∷ [] } })
unfolding with_traffic
gets moment t new room = rw (new, room) refl

-- ---- the steps of one moment

-- the words of aircraft, and the end
abbrev said : List Traffic → List Word
said items = map (λ t. says.Traffic t) items ++ says.End ∷ []

module _ (last : Option ℕ) (format time : ℕ) (own : Own) where
  -- the moment is open with these aircraft
  abbrev open_with : List Traffic → Stepped
  open_with items = stepped (record { moment = Some (record { time = time; own = Some own; bounds = no_error; traffic = record { items = items } }); last = last; format = format }) None

  -- it ended with them
  abbrev ended_with : List Traffic → Stepped
  ended_with items = stepped (record { moment = None; last = Some time; format = format }) (Some (picture_of time own items))

  owns : step (record { moment = Some (empty_moment time); last = last; format = format }) (says.Own own no_error) ≡ Ok (open_with [])
  unfolding step with_own
  owns = refl

  module _ (output : Outputs) (altitude : ℤ) (at : ℕ) where
    abbrev aircraft : ℕ → Traffic
    aircraft i = aircraft_at output altitude (i + 1) (at + 6 * i)

    abbrev first : ℕ → List Traffic
    first i = traffic_at output altitude i at

    name_is : (i : ℕ) → (aircraft i).id ≡ name_of (i + 1)
    unfolding aircraft_at
    name_is i = refl

    new_name : (i : ℕ) → i < 8 → has_id (aircraft i).id (first i) ≡ false
    new_name i few = list_any_none (λ (t : Traffic). bytes_eq t.id (aircraft i).id) (first i) (λ k d lt.
        let below : k < i = (let n = traffic_count output altitude i at in omega (arith, n, lt)) in
        ap (λ (t : Traffic). bytes_eq t.id (aircraft i).id) (aircraft_is output altitude i at k d below)
        ∙ ap (λ (id : List ℕ). bytes_eq id (aircraft i).id) (name_is k)
        ∙ ap (λ (id : List ℕ). bytes_eq (name_of (k + 1)) id) (name_is i)
        ∙ other_name (k + 1) (i + 1) (omega arith) (omega arith))

    has_room : (i : ℕ) → i < 8 → (length (first i) == 64) ≡ false
    has_room i few = ap (λ (n : ℕ). n == 64) (traffic_count output altitude i at) ∙ not_64
      where
        not_64 : (i == 64) ≡ false
        not_64 = grind (arith, nat_tests)

    one_more : (i : ℕ) → first i ++ aircraft i ∷ [] ≡ first (i + 1)
    unfolding traffic_at
    one_more i = sym (map-range_with_len_more (λ j. aircraft_at output altitude (j + 1) (at + 6 * j)) 0 i i (zero-add i))

    adds : (i : ℕ) → i < 8 → step (open_with (first i)).state (says.Traffic (aircraft i)) ≡ Ok (open_with (first (i + 1)))
    adds i few =
        step-Traffic (open_with (first i)).state.moment last format (aircraft i) (open_with (first i ++ aircraft i ∷ [])).state.moment
        (gets (record { time = time; own = Some own; bounds = no_error; traffic = record { items = first i } }) (aircraft i) (new_name i few) (has_room i few))
        ∙ ap (λ (items : List Traffic). accepted (open_with items)) (one_more i)

    -- a drawn aircraft is taken as the truth, so that it is the same beside an ownship that is
    beside_same : (numbers : List ℕ) → map (beside no_error) (map (λ j. aircraft j) numbers) ≡ map (λ j. aircraft j) numbers
    unfolding aircraft_at
    beside_same [] = refl
    beside_same (number ∷ numbers) = ap (λ (items : List Traffic). aircraft number ∷ items) (beside_same numbers)

    ends : (count : ℕ) → step (open_with (first count)).state says.End ≡ Ok (ended_with (first count))
    unfolding step ended_picture traffic_at
    ends count = ap (λ (items : List Traffic). accepted (ended_with items)) (beside_same (range_with_len 0 count))

    all_added : (n i count : ℕ) → i + n ≡ count → count ≤ 8 → steps (open_with (first i)) (said (map aircraft (range_with_len i n))) ≡ Ok (ended_with (first count))
    all_added zero i count e few =
        steps_next (open_with (first i)) (ended_with (first i)) says.End [] (ends i) ∙ steps_none (ended_with (first i))
        ∙ ap (λ (k : ℕ). accepted (ended_with (first k))) (sym (add-zero i) ∙ e)
    all_added (suc n) i count e few =
        steps_next (open_with (first i)) (open_with (first (i + 1))) (says.Traffic (aircraft i)) (said (map aircraft (range_with_len (i + 1) n))) (adds i (omega (arith, e, few)))
        ∙ all_added n (i + 1) count (omega (arith, e)) few

    none_yet : [] ≡ first 0
    unfolding traffic_at
    none_yet = refl

    all_said : (count : ℕ) → count ≤ 8 → steps (open_with []) (said (first count)) ≡ Ok (ended_with (first count))
    unfolding traffic_at
    all_said count few = ap (λ (items : List Traffic). steps (open_with items) (said (map aircraft (range_with_len 0 count)))) none_yet ∙ all_added count 0 count (zero-add count) few

-- ---- a moment that is drawn

words_in_range : (picture : Picture) → IsPictureInRange picture → All IsWordInRange (moment_words picture)
words_in_range picture ok =
    All-cons IsWordInRange (says.Moment picture.time) (says.Own picture.own no_error ∷ said picture.traffic.items) tt
    (All-cons IsWordInRange (says.Own picture.own no_error) (said picture.traffic.items) (ok.own, no_error-range)
    (All-append IsWordInRange (map (λ t. says.Traffic t) picture.traffic.items) (says.End ∷ [])
    (All-map IsWordInRange (λ (t : Traffic). says.Traffic t) picture.traffic.items ok.traffic)
    (All-from_recursion IsWordInRange (says.End ∷ []) (tt, tt))))

in_time : (time : ℕ) → time < 2 ^ 32 → IsWithin times (pos time)
in_time time lt = (omega (arith, ints), omega (arith, ints))

module _ (output : Outputs) (time at : ℕ) (state : MomentsState) (closed : state.moment ≡ None) (earlier : IfSome state.last (λ last. last < time)) where
  all_accepted : steps (stepped state None) (moment_words (moment_at output time at)) ≡ Ok (stepped (record state { moment = None; last = Some time }) (Some (moment_at output time at)))
  unfolding moment_at
  all_accepted =
      let own = own_at output at in
      steps_next (stepped state None) (stepped (record state { moment = Some (empty_moment time) }) None) (says.Moment time) _ (begins state time closed earlier)
      ∙ steps_next (stepped (record state { moment = Some (empty_moment time) }) None) (open_with state.last state.format time own []) (says.Own own no_error) _ (owns state.last state.format time own)
      ∙ all_said state.last state.format time own output own.alt (at + 5) (count_at output at) (count_few output at)

  pub drawn_taken : time < 2 ^ 32 → IsTaken state (moment_at output time at)
  unfolding moment_at
  drawn_taken lt = record { time = in_time time lt; in_range = words_in_range (moment_at output time at) (drawn_range output time at); accepted = all_accepted }
