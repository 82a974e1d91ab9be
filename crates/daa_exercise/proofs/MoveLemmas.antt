-- The moment of outputs from a place on is that of the outputs that are left there.
use Rattle.std.proofs.Common.{◌≡◌, ◌∙◌, ◌+◌, ◌*◌, ℕ, ℤ, pos, neg_ℤ, ◌+ℤ◌, nat_abs, List, [], ◌∷◌, ◌++◌, length, map, refl, sym, ap, ap₂, arith, add_assoc, add-zero, zero-add, add-one}
use Rattle.std.proofs.lemmas.List.FromFn.{length-map-range_with_len, map-range_with_len_more}
use Rattle.std.specs.List.{range_with_len}
use Rattle.rand_pcg.specs.Lcg.{Lcg}
use Rattle.daa_state.specs.declared.word.Own.{Own}
use Rattle.daa_state.specs.declared.word.Traffic.{Traffic}
use Rattle.daa_state.specs.declared.word.Picture.{Picture}
use Rattle.daa_exercise.specs.Inside.Drawing.{Outputs, after, draws_at, moment_at, name_of, outputs_from, traffic_at}
use Rattle.daa_exercise.specs.Moments.{own_at, count_at, aircraft_at, begin_of, moment_of}
use Rattle.daa_exercise.specs.Outputs.{picked}
use Rattle.daa_exercise.proofs.DrawLemmas.{own_of, aircraft_of, outputs_after, none_after, after_after, next_after}

module _ (output : Outputs) (m : ℕ) where
  abbrev left : Outputs
  left k = output (m + k)

  moved : (at j : ℕ) → left (at + j) ≡ output (m + at + j)
  moved at j = ap output (sym (add_assoc m at j))

  pub own_moved : (at : ℕ) → own_at left at ≡ own_at output (m + at)
  unfolding own_at
  own_moved at =
      let t = moved at 1 in let g = moved at 2 in let v = moved at 3 in
      λ i. own_of (pos 0) (pos 0) (picked (pos 0) (pos 20000) (output (m + at))) (picked (pos 0) (pos 359) (t i)) (picked (pos 500) (pos 5000) (g i))
      (picked (neg_ℤ (pos 2000)) (pos 2000) (v i))

  pub count_moved : (at : ℕ) → count_at left at ≡ count_at output (m + at)
  unfolding count_at
  count_moved at = let c = moved at 4 in λ i. let w : Outputs = λ _. c i in count_at w at

  pub aircraft_moved : (altitude : ℤ) (number at : ℕ) → aircraft_at left altitude number at ≡ aircraft_at output altitude number (m + at)
  unfolding aircraft_at
  aircraft_moved altitude number at =
      let y = moved at 1 in let h = moved at 2 in let e = moved at 3 in let n = moved at 4 in let v = moved at 5 in
      λ i. aircraft_of (name_of number) (picked (neg_ℤ (pos 8000)) (pos 8000) (output (m + at))) (picked (neg_ℤ (pos 8000)) (pos 8000) (y i))
      (altitude +ℤ picked (neg_ℤ (pos 2000)) (pos 2000) (h i)) (picked (neg_ℤ (pos 5000)) (pos 5000) (e i)) (picked (neg_ℤ (pos 5000)) (pos 5000) (n i))
      (picked (neg_ℤ (pos 2000)) (pos 2000) (v i))

  pub traffic_moved : (altitude : ℤ) (count at : ℕ) → traffic_at left altitude count at ≡ traffic_at output altitude count (m + at)
  unfolding traffic_at
  traffic_moved altitude count at =
      let each : (i : ℕ) → aircraft_at left altitude (i + 1) (at + 6 * i) ≡ aircraft_at output altitude (i + 1) (m + at + 6 * i) = λ i.
      aircraft_moved altitude (i + 1) (at + 6 * i) ∙ ap (aircraft_at output altitude (i + 1)) (sym (add_assoc m at (6 * i))) in
      λ p. map (λ i. each i p) (range_with_len 0 count)

  pub moment_moved : (time at : ℕ) → moment_at left time at ≡ moment_at output time (m + at)
  unfolding moment_at
  moment_moved time at =
      let own = own_moved at in
      let traffic = traffic_moved (own_at left at).alt (count_at left at) (at + 5)
      ∙ ap (λ (o : Own). traffic_at output o.alt (count_at left at) (m + (at + 5))) own
      ∙ ap (λ (n : ℕ). traffic_at output (own_at output (m + at)).alt n (m + (at + 5))) (count_moved at)
      ∙ ap (traffic_at output (own_at output (m + at)).alt (count_at output (m + at))) (sym (add_assoc m at 5)) in
      λ i. record { time = time; own = own i; traffic = record { items = traffic i } }

-- the moment of a time is that of the draws from where they begin
pub moment_is : (output : Outputs) (time : ℕ) → moment_of output time ≡ moment_at output time (begin_of output time)
unfolding moment_of moment_at traffic_at
moment_is output time = refl

abbrev pub picture_of : ℕ → Own → List Traffic → Picture
picture_of time own items = record { time = time; own = own; traffic = record { items = items } }

-- ---- over a generator

module _ (g : Lcg) where
  left_after : (m : ℕ) → outputs_from (after m g) ≡ left (outputs_from g) m
  left_after m = λ i k. outputs_after m k g i

  -- the moment of what is left after some outputs
  pub moment_after : (m time : ℕ) → moment_at (outputs_from (after m g)) time 0 ≡ moment_at (outputs_from g) time m
  moment_after m time =
      ap (λ (w : Outputs). moment_at w time 0) (left_after m) ∙ moment_moved (outputs_from g) m time 0 ∙ ap (moment_at (outputs_from g) time) (add-zero m)

  pub draws_after : (m : ℕ) → draws_at (outputs_from (after m g)) 0 ≡ draws_at (outputs_from g) m
  draws_after m =
      ap (λ (w : Outputs). draws_at w 0) (left_after m) ∙ ap (λ (n : ℕ). 5 + 6 * n) (count_moved (outputs_from g) m 0) ∙ ap (draws_at (outputs_from g)) (add-zero m)

  -- one aircraft more
  pub aircraft_after : (m : ℕ) (altitude : ℤ) (number : ℕ) → aircraft_at (outputs_from (after m g)) altitude number 0 ≡ aircraft_at (outputs_from g) altitude number m
  aircraft_after m altitude number =
      ap (λ (w : Outputs). aircraft_at w altitude number 0) (left_after m) ∙ aircraft_moved (outputs_from g) m altitude number 0
      ∙ ap (aircraft_at (outputs_from g) altitude number) (add-zero m)

-- ---- one moment after another

-- before a moment of a time the outputs of all earlier ones are drawn; after its own those of the next one follow
pub next_follows : (g d e : Lcg) (time : ℕ) → d ≡ after (begin_of (outputs_from g) time) g → e ≡ after (draws_at (outputs_from d) 0) d
    → e ≡ after (begin_of (outputs_from g) (time + 1)) g
unfolding begin_of
next_follows g d e time at rest =
    let b = begin_of (outputs_from g) time in
    let next : b + draws_at (outputs_from g) b ≡ begin_of (outputs_from g) (time + 1) = ap (begin_of (outputs_from g)) (sym (add-one time)) in
    rest ∙ ap (λ (x : Lcg). after (draws_at (outputs_from x) 0) x) at ∙ ap (λ (n : ℕ). after n (after b g)) (draws_after g b)
    ∙ after_after b (draws_at (outputs_from g) b) g ∙ ap (λ (n : ℕ). after n g) next

-- and this is the moment
pub next_is : (g d : Lcg) (time : ℕ) (picture : Picture) → d ≡ after (begin_of (outputs_from g) time) g → picture ≡ moment_at (outputs_from d) time 0
    → picture ≡ moment_of (outputs_from g) time
next_is g d time picture at is =
    is ∙ ap (λ (x : Lcg). moment_at (outputs_from x) time 0) at ∙ moment_after g (begin_of (outputs_from g) time) time ∙ sym (moment_is (outputs_from g) time)

-- ---- the parts of a moment, drawn one after another

count_drawn : (g d : Lcg) (count : ℕ) → d ≡ after 4 g → count ≡ nat_abs (picked (pos 0) (pos 8) (outputs_from d 0)) → count ≡ count_at (outputs_from g) 0
unfolding count_at
count_drawn g d count at is = is ∙ ap (λ (x : Lcg). nat_abs (picked (pos 0) (pos 8) (outputs_from x 0))) at ∙ ap (λ (w : ℕ). nat_abs (picked (pos 0) (pos 8) w)) (outputs_after 4 0 g)

-- the outputs of a moment are left behind: four, one, and six for each aircraft
pub draws_drawn : (g g1 g2 g3 : Lcg) (count : ℕ) → g1 ≡ after 4 g → g2 ≡ after 1 g1 → g3 ≡ after (6 * count) g2
    → count ≡ nat_abs (picked (pos 0) (pos 8) (outputs_from g1 0)) → g3 ≡ after (draws_at (outputs_from g) 0) g
draws_drawn g g1 g2 g3 count e1 e2 e3 is_count =
    e3 ∙ ap (after (6 * count)) (next_after 4 g g1 g2 e1 e2) ∙ after_after 5 (6 * count) g ∙ ap (λ (c : ℕ). after (5 + 6 * c) g) (count_drawn g g1 count e1 is_count)

pub moment_drawn : (g g1 g2 g3 : Lcg) (time count : ℕ) (own : Own) (items : List Traffic) → g1 ≡ after 4 g → g2 ≡ after 1 g1 → g3 ≡ after (6 * count) g2
    → own ≡ own_at (outputs_from g) 0 → count ≡ nat_abs (picked (pos 0) (pos 8) (outputs_from g1 0)) → items ≡ traffic_at (outputs_from g2) own.alt count 0
    → (picture_of time own items ≡ moment_at (outputs_from g) time 0) × (g3 ≡ after (draws_at (outputs_from g) 0) g)
unfolding moment_at
moment_drawn g g1 g2 g3 time count own items e1 e2 e3 is_own is_count is_traffic =
    let at : g2 ≡ after 5 g = next_after 4 g g1 g2 e1 e2 in
    let n = count_drawn g g1 count e1 is_count in
    let traffic = is_traffic ∙ ap (λ (x : Lcg). traffic_at (outputs_from x) own.alt count 0) at
    ∙ ap (λ (w : Outputs). traffic_at w own.alt count 0) (left_after g 5) ∙ traffic_moved (outputs_from g) 5 own.alt count 0
    ∙ ap₂ (λ (o : Own) (c : ℕ). traffic_at (outputs_from g) o.alt c 5) is_own n in (
      (λ i. picture_of time (is_own i) (traffic i)),
      draws_drawn g g1 g2 g3 count e1 e2 e3 is_count,
    )

-- ---- one aircraft after another

pub no_traffic : (output : Outputs) (altitude : ℤ) (items : List Traffic) → items ≡ [] → items ≡ traffic_at output altitude 0 0
unfolding traffic_at
no_traffic output altitude items e = e

pub traffic_count : (output : Outputs) (altitude : ℤ) (count at : ℕ) → length (traffic_at output altitude count at) ≡ count
unfolding traffic_at
traffic_count output altitude count at = length-map-range_with_len (λ i. aircraft_at output altitude (i + 1) (at + 6 * i)) 0 count

pub traffic_more : (g d e : Lcg) (altitude : ℤ) (i : ℕ) (items all : List Traffic) (aircraft : Traffic) → d ≡ after (6 * i) g → e ≡ after 6 d
    → items ≡ traffic_at (outputs_from g) altitude i 0 → aircraft ≡ aircraft_at (outputs_from d) altitude (i + 1) 0 → all ≡ items ++ aircraft ∷ []
    → (all ≡ traffic_at (outputs_from g) altitude (i + 1) 0) × (e ≡ after (6 * (i + 1)) g)
unfolding traffic_at
traffic_more g d e altitude i items all aircraft at rest before is pushed =
    let here : aircraft ≡ aircraft_at (outputs_from g) altitude (i + 1) (0 + 6 * i) =
    is ∙ ap (λ (x : Lcg). aircraft_at (outputs_from x) altitude (i + 1) 0) at
    ∙ aircraft_after g (6 * i) altitude (i + 1)
    ∙ ap (aircraft_at (outputs_from g) altitude (i + 1)) (sym (zero-add (6 * i))) in
    let count : 6 * i + 6 ≡ 6 * (i + 1) = omega arith in (
      pushed ∙ ap₂ (λ (xs : List Traffic) (x : Traffic). xs ++ x ∷ []) before here
          ∙ sym (map-range_with_len_more (λ j. aircraft_at (outputs_from g) altitude (j + 1) (0 + 6 * j)) 0 i i (zero-add i)),
      rest ∙ ap (after 6) at ∙ after_after (6 * i) 6 g ∙ ap (λ (n : ℕ). after n g) count,
    )

-- nothing is drawn before the first moment
pub first_is : (g d : Lcg) → d ≡ g → d ≡ after (begin_of (outputs_from g) 0) g
unfolding begin_of
first_is g d e = e ∙ sym (none_after g)
