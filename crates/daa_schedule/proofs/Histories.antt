-- Histories of accepted steps, one step longer.
use Rattle.std.proofs.Common.{◌≡◌, ◌≢◌, ℕ, ◌<◌, ◌≤◌, Bool, true, false, leb, ltb, eqb, not, cond, List, [], ◌∷◌, ◌++◌, Option, Some, None, sym, refl, ap, ◌∙◌, subst, arith, eq-eqb, ne_eqb}
use Rattle.std.proofs.lemmas.Bool.{or_from}
use Rattle.std.proofs.lemmas.Bool.Decides.{nat_tests}
use Rattle.daa_schedule.specs.CoreState.{CoreState, has_ended}
use Rattle.daa_schedule.specs.Step.{first_fault, fault_of, checks, moved, stepped, unless}
use Rattle.daa_schedule.specs.Runs.{run, by_of, steps_of, AllAccepted, IsHistory}
use Rattle.daa_schedule.specs.declared.step.Step.{Step}
use Rattle.daa_schedule.specs.declared.step.Step.TheVariants.{Claim, Steal, Keep, Settle, End}
use Rattle.daa_schedule.specs.declared.step.StepFault.{StepFault}
use Rattle.daa_schedule.proofs.Faults.{AllFalse, Claims, Steals, Keeps, Settles, Ends}

pub run-append : (c : CoreState) (xs ys : List Step) → run c (xs ++ ys) ≡ run (run c xs) ys
run-append c [] ys = refl
run-append c (x ∷ xs) ys = run-append (stepped c x) xs ys

accepted_append : (c : CoreState) (xs ys : List Step) → AllAccepted c xs → AllAccepted (run c xs) ys → AllAccepted c (xs ++ ys)
accepted_append c [] ys a b = b
accepted_append c (x ∷ xs) ys a b = (a.0, accepted_append (stepped c x) xs ys a.1 b)

chosen : (b : Bool) (s : Step) (xs ys : List Step) → (cond b (s ∷ xs) xs) ++ ys ≡ cond b (s ∷ (xs ++ ys)) (xs ++ ys)
chosen true s xs ys = refl
chosen false s xs ys = refl

pub steps_of-append : (w : ℕ) (xs ys : List Step) → steps_of w (xs ++ ys) ≡ steps_of w xs ++ steps_of w ys
steps_of-append w [] ys = refl
steps_of-append w (x ∷ xs) ys = ap (λ (l : List Step). cond (eqb (by_of x) w) (x ∷ l) l) (steps_of-append w xs ys) ∙ sym (chosen (eqb (by_of x) w) x (steps_of w xs) (steps_of w ys))

pub steps_of_own : (s : Step) (w : ℕ) → by_of s ≡ w → steps_of w (s ∷ []) ≡ s ∷ []
steps_of_own s w e = ap (λ (b : Bool). cond b (s ∷ []) []) (eq-eqb (by_of s) w e)

pub steps_of_other : (s : Step) (w : ℕ) → by_of s ≢ w → steps_of w (s ∷ []) ≡ []
steps_of_other s w n = ap (λ (b : Bool). cond b (s ∷ []) []) (ne_eqb (by_of s) w n)

pub one_more : (c : CoreState) (log : List Step) (d : CoreState) (s : Step) → IsHistory c log d → fault_of d s ≡ None → IsHistory c (log ++ s ∷ []) (moved d s)
one_more c log d s h e =
    let e' : fault_of (run c log) s ≡ None = subst (λ (x : CoreState). fault_of x s ≡ None) (sym h.reached) e in record {
      reached = run-append c log (s ∷ []) ∙ (ap (λ (x : CoreState). stepped x s) h.reached ∙ ap (λ (o : Option StepFault). unless o (moved d s) d) e);
      accepted_all = accepted_append c log (s ∷ []) h.accepted_all (e', tt);
    }

-- where every test is false nothing refuses
no_fault : (ts : List (Bool × StepFault)) → AllFalse ts → first_fault ts ≡ None
no_fault [] a = refl
no_fault (t ∷ ts) a = ap (λ (b : Bool). cond b (Some t.1) (first_fault ts)) a.0 ∙ no_fault ts a.1

stranger_not : (a b : ℕ) → b < a → leb a b ≡ false
stranger_not a b h = grind (arith, nat_tests)

none_left : (n : ℕ) → n ≡ 0 → ltb 0 n ≡ false
none_left n e = grind (arith, nat_tests)

not_none : (n : ℕ) → 0 < n → eqb n 0 ≡ false
not_none n h = grind (arith, nat_tests)

not_short : (n k : ℕ) → k ≤ n → ltb n k ≡ false
not_short n k h = grind (arith, nat_tests)

not_wrong : (a b : ℕ) → a ≡ b → not (eqb a b) ≡ false
not_wrong a b e = grind (arith, nat_tests)

pub claims_none : (c : CoreState) (by : ℕ) → Claims c by → fault_of c (Claim by) ≡ None
claims_none c by k = no_fault (checks c (Claim by)) (stranger_not _ _ k.known, (k.going, (none_left _ k.free, (not_none _ k.some, tt))))

pub steals_none : (c : CoreState) (by other : ℕ) → Steals c by other → fault_of c (Steal by other) ≡ None
steals_none c by other k = no_fault (checks c (Steal by other))
    (or_from _ _ (stranger_not _ _ k.known) (stranger_not _ _ k.other_known), (k.going, (ne_eqb by other k.apart, (none_left _ k.free, (none_left _ k.none, (not_short _ _ k.two, tt))))))

pub keeps_none : (c : CoreState) (by : ℕ) → Keeps c by → fault_of c (Keep by) ≡ None
keeps_none c by k = let two = k.two in no_fault (checks c (Keep by)) (stranger_not _ _ k.known, (k.going, (not_none _ (omega arith), (not_short _ _ two, tt))))

pub settles_none : (c : CoreState) (by word : ℕ) → Settles c by word → fault_of c (Settle by word) ≡ None
settles_none c by word k = let one = k.one in no_fault (checks c (Settle by word)) (
  stranger_not _ _ k.known,
  (k.going, (not_none _ (omega arith), (not_short _ _ (omega arith), (not_wrong _ _ k.right, tt)))),
)

pub ends_none : (c : CoreState) (by : ℕ) → has_ended c by ≡ false → Ends c by → fault_of c (End by) ≡ None
ends_none c by going k = no_fault (checks c (End by)) (stranger_not _ _ k.known, (going, (none_left _ k.free, (none_left _ k.none, tt))))
