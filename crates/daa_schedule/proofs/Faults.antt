-- What is known where nothing refuses a step.
use Rattle.std.proofs.Common.{◌≡◌, ◌≢◌, ℕ, ◌<◌, ◌≤◌, Bool, true, false, leb, ltb, eqb, not, cond, List, [], ◌∷◌, length, Option, Some, None, slice_index, refl, arith}
use Rattle.std.proofs.lemmas.Bool.{or_parts}
use Rattle.std.proofs.lemmas.Bool.Decides.{nat_tests}
use Rattle.daa_range.specs.Range.{range_len}
use Rattle.daa_schedule.specs.CoreState.{CoreState, range_at, hand_at, has_ended}
use Rattle.daa_schedule.specs.Step.{first_fault, fault_of, checks}
use Rattle.daa_schedule.specs.declared.step.StepFault.{StepFault}
use Rattle.daa_schedule.specs.declared.step.Step.TheVariants.{Claim, Steal, Keep, Settle, End}

abbrev pub AllFalse : List (Bool × StepFault) → Type 0
AllFalse [] = Unit {0}
AllFalse (t ∷ ts) = (t.0 ≡ false) × AllFalse ts

first_false : (b : Bool) (f : StepFault) (o : Option StepFault) → cond b (Some f) o ≡ None → (b ≡ false) × (o ≡ None)
first_false true f o e = cc
first_false false f o e = (refl, e)

pub all_false : (ts : List (Bool × StepFault)) → first_fault ts ≡ None → AllFalse ts
all_false [] e = tt
all_false (t ∷ ts) e = let p = first_false t.0 t.1 (first_fault ts) e in (p.0, all_false ts p.1)

pub below : (a b : ℕ) → leb a b ≡ false → b < a
below a b e = grind (arith, nat_tests)

pub empty : (n : ℕ) → ltb 0 n ≡ false → n ≡ 0
empty n e = grind (arith, nat_tests)

pub some_left : (n : ℕ) → eqb n 0 ≡ false → 0 < n
some_left n e = grind (arith, nat_tests)

pub at_least : (n k : ℕ) → ltb n k ≡ false → k ≤ n
at_least n k e = grind (arith, nat_tests)

pub record Claims (c : CoreState) (by : ℕ) : Type 0 where
  pub known : by < length c.ranges
  pub going : has_ended c by ≡ false
  pub free : range_len (hand_at c by) ≡ 0
  pub some : 0 < range_len (range_at c by)

pub claims : (c : CoreState) (by : ℕ) → fault_of c (Claim by) ≡ None → Claims c by
claims c by e = let t = all_false (checks c (Claim by)) e in
    record { known = below _ _ t.0; going = t.1.0; free = empty _ t.1.1.0; some = some_left _ t.1.1.1.0 }

pub record Steals (c : CoreState) (by other : ℕ) : Type 0 where
  pub known : by < length c.ranges
  pub other_known : other < length c.ranges
  pub going : has_ended c by ≡ false
  pub apart : by ≢ other
  pub free : range_len (hand_at c by) ≡ 0
  pub none : range_len (range_at c by) ≡ 0
  pub two : 2 ≤ range_len (range_at c other)

apart_from : (a b : ℕ) → eqb a b ≡ false → a ≢ b
apart_from a b e = grind (arith, nat_tests)

pub steals : (c : CoreState) (by other : ℕ) → fault_of c (Steal by other) ≡ None → Steals c by other
steals c by other e = let t = all_false (checks c (Steal by other)) e in let k = or_parts _ _ t.0 in
    record { known = below _ _ k.0; other_known = below _ _ k.1; going = t.1.0; apart = apart_from _ _ t.1.1.0; free = empty _ t.1.1.1.0; none = empty _ t.1.1.1.1.0; two = at_least _ _ t.1.1.1.1.1.0 }

pub record Keeps (c : CoreState) (by : ℕ) : Type 0 where
  pub known : by < length c.ranges
  pub going : has_ended c by ≡ false
  pub two : 2 ≤ range_len (hand_at c by)

pub keeps : (c : CoreState) (by : ℕ) → fault_of c (Keep by) ≡ None → Keeps c by
keeps c by e = let t = all_false (checks c (Keep by)) e in
    record { known = below _ _ t.0; going = t.1.0; two = at_least _ _ t.1.1.1.0 }

pub record Settles (c : CoreState) (by word : ℕ) : Type 0 where
  pub known : by < length c.ranges
  pub going : has_ended c by ≡ false
  pub one : range_len (hand_at c by) ≡ 1
  pub right : word ≡ slice_index c.answers (hand_at c by).first

one_left : (n : ℕ) → eqb n 0 ≡ false → ltb 1 n ≡ false → n ≡ 1
one_left n e f = grind (arith, nat_tests)

same_word : (a b : ℕ) → not (eqb a b) ≡ false → a ≡ b
same_word a b e = grind (arith, nat_tests)

pub settles : (c : CoreState) (by word : ℕ) → fault_of c (Settle by word) ≡ None → Settles c by word
settles c by word e = let t = all_false (checks c (Settle by word)) e in
    record { known = below _ _ t.0; going = t.1.0; one = one_left _ t.1.1.0 t.1.1.1.0; right = same_word _ _ t.1.1.1.1.0 }

pub record Ends (c : CoreState) (by : ℕ) : Type 0 where
  pub known : by < length c.ranges
  pub free : range_len (hand_at c by) ≡ 0
  pub none : range_len (range_at c by) ≡ 0

pub ends : (c : CoreState) (by : ℕ) → fault_of c (End by) ≡ None → Ends c by
ends c by e = let t = all_false (checks c (End by)) e in
    record { known = below _ _ t.0; free = empty _ t.1.1.0; none = empty _ t.1.1.1.0 }
