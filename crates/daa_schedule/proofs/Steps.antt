-- Each step that nothing refuses keeps a core shaped and whole, and lowers what is left.
use Rattle.std.proofs.Common.{◌≡◌, ◌≢◌, ℕ, ◌+◌, ◌-◌, ◌*◌, ◌<◌, ◌≤◌, true, false, eqb, cond}
use Rattle.std.proofs.Common.{List, length, get_or, set, slice_index, sym, refl, ap, ◌∙◌}
use Rattle.std.proofs.Common.{subst, arith, length-set, get_or-set_same, get_or-set_other}
use mathlib.Core.Logic.{dite}
use native.Mathlib.Decide.{ℕ_discrete}
use Rattle.std.specs.List.{sum_by}
use Rattle.std.proofs.lemmas.List.Sums.{sum_by-set, get_or-le-sum_by}
use Rattle.std.proofs.lemmas.Bool.Decides.{nat_tests}
use Rattle.daa_range.specs.Range.{RangeState, range_len, times_in, middle_of, lower_of, upper_of, first_unit_of, rest_of}
use Rattle.daa_range.proofs.Ranges.{times_in_cut, times_in_none, times_in_first, times_in_inside}
use Rattle.daa_schedule.specs.CoreState.{CoreState, no_units, range_at, hand_at, has_ended, times_on, times_held, once_below, IsSoundWorker, IsWhole, hand_left, left_of}
use Rattle.daa_schedule.specs.Inside.CoreState.{IsShaped}
use Rattle.daa_schedule.specs.Step.{moved}
use Rattle.daa_schedule.specs.declared.step.Step.TheVariants.{Claim, Steal, Keep, Settle, End}
use Rattle.daa_schedule.proofs.Workers.{both_set, one_set}
use Rattle.daa_schedule.proofs.Faults.{Claims, Steals, Keeps, Settles, Ends}

pub held_here : (h : RangeState) → range_len h ≡ 1 → times_in h.first h ≡ 1
held_here h one = times_in_inside h.first h (omega arith) (omega arith)

held_not : (u : ℕ) (h : RangeState) → range_len h ≡ 1 → u ≢ h.first → times_in u h ≡ 0
held_not u h one n = grind (arith, nat_tests)

on_none : (u : ℕ) (board : List ℕ) → slice_index board u ≡ 0 → times_on u board ≡ 0
on_none u board e = grind (arith, nat_tests)

on_some : (u : ℕ) (board : List ℕ) → slice_index board u ≢ 0 → times_on u board ≡ 1
on_some u board n = grind (arith, nat_tests)

pub left_none : (m : ℕ) → m ≡ 0 → hand_left m ≡ 0
left_none m e = grind (arith, nat_tests)

left_one : (m : ℕ) → m ≡ 1 → hand_left m ≡ 1
left_one m e = grind (arith, nat_tests)

left_more : (m : ℕ) → 2 ≤ m → hand_left m ≡ 3 * m - 1
left_more m e = grind (arith, nat_tests)

left_some : (m : ℕ) → 0 < m → hand_left m < 3 * m
left_some m e = grind (arith, nat_tests)

module _ (c : CoreState) (s : IsShaped c) (w : IsWhole c) where
  hands_known : (by : ℕ) → by < length c.ranges → by < length c.hands
  hands_known by h = let e = s.hands in omega arith

  -- the totals after one worker's range and hand have changed
  totals : (u i j : ℕ) (r h : RangeState) → i < length c.ranges → j < length c.ranges
      → (sum_by (times_in u) (set c.ranges i r) + times_in u (range_at c i) ≡ sum_by (times_in u) c.ranges + times_in u r)
      × (sum_by (times_in u) (set c.hands j h) + times_in u (hand_at c j) ≡ sum_by (times_in u) c.hands + times_in u h)
  totals u i j r h a b = (sum_by-set (times_in u) c.ranges i r no_units a, sum_by-set (times_in u) c.hands j h no_units (hands_known j b))

  -- ranges and hands that hold what they held
  same_once : (d : CoreState) (i j : ℕ) (r h : RangeState) → i < length c.ranges → j < length c.ranges
      → d.ranges ≡ set c.ranges i r → d.hands ≡ set c.hands j h → d.board ≡ c.board → d.answers ≡ c.answers
      → ((u : ℕ) → times_in u r + times_in u h ≡ times_in u (range_at c i) + times_in u (hand_at c j))
      → (u : ℕ) → times_held u d ≡ once_below u (length d.answers)
  same_once d i j r h a b er eh eb ea same u =
      let t = totals u i j r h a b in let k = same u in let o = w.once u in
      rw (er, eh, eb, ea) (omega arith)

  pub claim_whole : (by : ℕ) → Claims c by → IsWhole (moved c (Claim by))
  claim_whole by k = let r : RangeState = range_at c by in let h : RangeState = hand_at c by in let f = w.workers by in
      record {
        once = same_once (moved c (Claim by)) by by (rest_of r) (first_unit_of r) k.known k.known refl refl refl refl
            (λ u. let p = times_in_first u r k.some in let q = times_in_none u h f.hand_order k.free in omega arith);
        answered = w.answered;
        workers = both_set (λ v r h. IsSoundWorker r h (has_ended c v)) c.ranges c.hands by (rest_of r) (first_unit_of r) k.known (hands_known by k.known)
            (let some = k.some in record { range_order = omega arith; hand_order = omega arith; stolen = λ more. absurd (omega arith); ended = λ e. cc k.going })
            w.workers;
      }

  pub steal_whole : (by other : ℕ) → Steals c by other → IsWhole (moved c (Steal by other))
  steal_whole by other k = let r : RangeState = range_at c other in let h : RangeState = hand_at c by in let f = w.workers by in let g = w.workers other in let two = k.two in
      let order : r.first ≤ r.upto = g.range_order in
      let low : r.first ≤ middle_of r = omega arith in let high : middle_of r ≤ r.upto = omega arith in
      record {
        once = same_once (moved c (Steal by other)) other by (lower_of r) (upper_of r) k.other_known k.known refl refl refl refl
            (λ u. let p = times_in_cut u r.first (middle_of r) r.upto low high in let q = times_in_none u h f.hand_order k.free in omega arith);
        answered = w.answered;
        workers = λ v. one_set (λ v x. IsSoundWorker x (get_or (set c.hands by (upper_of r)) v no_units) (has_ended c v)) c.ranges other (lower_of r) no_units k.other_known
            (subst (λ (x : RangeState). IsSoundWorker (lower_of r) x (has_ended c other)) (sym (get_or-set_other c.hands by other (upper_of r) no_units (λ e. k.apart (sym e))))
            (record { range_order = low; hand_order = g.hand_order; stolen = λ more. absurd (let z = g.stolen more in omega arith); ended = λ e. absurd (let z = g.ended e in omega arith) }))
            (one_set (λ v x. IsSoundWorker (range_at c v) x (has_ended c v)) c.hands by (upper_of r) no_units (hands_known by k.known)
            (record { range_order = f.range_order; hand_order = high; stolen = λ _. k.none; ended = λ e. cc k.going })
            w.workers) v;
      }

  pub keep_whole : (by : ℕ) → Keeps c by → IsWhole (moved c (Keep by))
  keep_whole by k = let r : RangeState = range_at c by in let h : RangeState = hand_at c by in let f = w.workers by in let two = k.two in let none = f.stolen (omega arith) in
      record {
        once = same_once (moved c (Keep by)) by by (rest_of h) (first_unit_of h) k.known k.known refl refl refl refl
            (λ u. let p = times_in_first u h (omega arith) in let q = times_in_none u r f.range_order none in omega arith);
        answered = w.answered;
        workers = both_set (λ v r h. IsSoundWorker r h (has_ended c v)) c.ranges c.hands by (rest_of h) (first_unit_of h) k.known (hands_known by k.known)
            (record { range_order = omega arith; hand_order = omega arith; stolen = λ more. absurd (omega arith); ended = λ e. cc k.going })
            w.workers;
      }

  -- a unit in a hand is below the number of units, and not on the board
  pub in_hand : (by u : ℕ) → by < length c.ranges → times_in u (hand_at c by) ≡ 1 → (u < length c.answers) × (slice_index c.board u ≡ 0)
  in_hand by u known here =
      let some = get_or-le-sum_by (times_in u) c.hands by no_units (hands_known by known) in let o = w.once u in
      grind (arith, nat_tests)

  -- a unit in a range is below the number of units
  pub in_range : (by u : ℕ) → by < length c.ranges → times_in u (range_at c by) ≡ 1 → u < length c.answers
  in_range by u known here =
      let some = get_or-le-sum_by (times_in u) c.ranges by no_units known in let o = w.once u in
      grind (arith, nat_tests)

  pub settle_whole : (by word : ℕ) → Settles c by word → IsWhole (moved c (Settle by word))
  settle_whole by word k = let h : RangeState = hand_at c by in let f : ℕ = h.first in let fair = w.workers by in
      let here = in_hand by f k.known (held_here h k.one) in
      let low : f < length c.board = (let e = s.board in let b = here.0 in omega arith) in
      let real : word ≢ 0 = (λ z. s.answers f 0 here.0 (sym k.right ∙ z)) in
      record {
        once = λ u. let t = sum_by-set (times_in u) c.hands by no_units no_units (hands_known by k.known) in let o = w.once u in let z = times_in_none u no_units (omega arith) refl in
            dite (ℕ_discrete u f)
            (λ e. let p : times_in u h ≡ 1 = subst (λ (v : ℕ). times_in v h ≡ 1) (sym e) (held_here h k.one) in
            let q : times_on u c.board ≡ 0 = on_none u c.board (ap (λ (v : ℕ). slice_index c.board v) e ∙ here.1) in
            let q' : times_on u (set c.board f word) ≡ 1 =
            on_some u (set c.board f word) (λ n. real (sym (get_or-set_same c.board f word 0 low)
            ∙ (ap (λ (v : ℕ). slice_index (set c.board f word) v) (sym e) ∙ n))) in
            omega arith)
            (λ n. let p : times_in u h ≡ 0 = held_not u h k.one n in
            let q : times_on u (set c.board f word) ≡ times_on u c.board = ap (λ (x : ℕ). cond (eqb x 0) 0 1) (get_or-set_other c.board f u word 0 n) in
            omega arith);
        answered = λ u some. dite (ℕ_discrete u f)
            (λ e. (ap (λ (v : ℕ). slice_index (set c.board f word) v) e ∙ get_or-set_same c.board f word 0 low) ∙ (k.right ∙ ap (λ (v : ℕ). slice_index c.answers v) (sym e)))
            (λ n. let same = get_or-set_other c.board f u word 0 n in same ∙ w.answered u (λ z. some (same ∙ z)));
        workers = one_set (λ v x. IsSoundWorker (range_at c v) x (has_ended c v)) c.hands by no_units no_units (hands_known by k.known)
            (record { range_order = fair.range_order; hand_order = omega arith; stolen = λ more. absurd (omega arith); ended = λ e. cc k.going })
            w.workers;
      }

  pub end_whole : (by : ℕ) → Ends c by → IsWhole (moved c (End by))
  end_whole by k = let e = s.ended in let known = k.known in record {
    once = w.once;
    answered = w.answered;
    workers = one_set (λ v x. IsSoundWorker (range_at c v) (hand_at c v) x) c.ended by true false (omega arith)
        (let f = w.workers by in record { range_order = f.range_order; hand_order = f.hand_order; stolen = f.stolen; ended = λ _. (k.free, k.none) })
        w.workers;
  }

  pub claim_shaped : (by : ℕ) → IsShaped (moved c (Claim by))
  claim_shaped by = record { hands = length-set c.hands _ _ ∙ (s.hands ∙ sym (length-set c.ranges _ _)); ended = s.ended ∙ sym (length-set c.ranges _ _); board = s.board; answers = s.answers }

  pub steal_shaped : (by other : ℕ) → IsShaped (moved c (Steal by other))
  steal_shaped by other = record { hands = length-set c.hands _ _ ∙ (s.hands ∙ sym (length-set c.ranges _ _)); ended = s.ended ∙ sym (length-set c.ranges _ _); board = s.board; answers = s.answers }

  pub keep_shaped : (by : ℕ) → IsShaped (moved c (Keep by))
  keep_shaped by = record { hands = length-set c.hands _ _ ∙ (s.hands ∙ sym (length-set c.ranges _ _)); ended = s.ended ∙ sym (length-set c.ranges _ _); board = s.board; answers = s.answers }

  pub settle_shaped : (by word : ℕ) → IsShaped (moved c (Settle by word))
  settle_shaped by word = record { hands = length-set c.hands _ _ ∙ s.hands; ended = s.ended; board = length-set c.board _ _ ∙ s.board; answers = s.answers }

  pub end_shaped : (by : ℕ) → IsShaped (moved c (End by))
  end_shaped by = record { hands = s.hands; ended = length-set c.ended _ _ ∙ s.ended; board = s.board; answers = s.answers }

  -- what is left after one worker's range and hand have changed
  left_totals : (i j : ℕ) (r h : RangeState) → i < length c.ranges → j < length c.ranges
      → (sum_by range_len (set c.ranges i r) + range_len (range_at c i) ≡ sum_by range_len c.ranges + range_len r)
      × (sum_by (λ x. hand_left (range_len x)) (set c.hands j h) + hand_left (range_len (hand_at c j)) ≡ sum_by (λ x. hand_left (range_len x)) c.hands + hand_left (range_len h))
  left_totals i j r h a b = (sum_by-set range_len c.ranges i r no_units a, sum_by-set (λ x. hand_left (range_len x)) c.hands j h no_units (hands_known j b))

  pub claim_lowers : (by : ℕ) → Claims c by → left_of (moved c (Claim by)) < left_of c
  claim_lowers by k = let r : RangeState = range_at c by in let some = k.some in
      let t = left_totals by by (rest_of r) (first_unit_of r) k.known k.known in
      let p = left_none _ k.free in let q = left_one (range_len (first_unit_of r)) (omega arith) in omega arith

  pub steal_lowers : (by other : ℕ) → Steals c by other → left_of (moved c (Steal by other)) < left_of c
  steal_lowers by other k = let r : RangeState = range_at c other in let two = k.two in
      let t = left_totals other by (lower_of r) (upper_of r) k.other_known k.known in
      let p = left_none _ k.free in let q = left_some (range_len (upper_of r)) (omega arith) in omega arith

  pub keep_lowers : (by : ℕ) → Keeps c by → left_of (moved c (Keep by)) < left_of c
  keep_lowers by k = let h : RangeState = hand_at c by in let two = k.two in let fair = w.workers by in let none = fair.stolen (omega arith) in
      let t = left_totals by by (rest_of h) (first_unit_of h) k.known k.known in
      let p = left_more _ two in let q = left_one (range_len (first_unit_of h)) (omega arith) in omega arith

  pub settle_lowers : (by word : ℕ) → Settles c by word → left_of (moved c (Settle by word)) < left_of c
  settle_lowers by word k =
      let t = sum_by-set (λ x. hand_left (range_len x)) c.hands by no_units no_units (hands_known by k.known) in
      let p = left_one _ k.one in let q = left_none 0 refl in omega arith
