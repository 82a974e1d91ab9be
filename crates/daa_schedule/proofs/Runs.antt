-- Runs of steps from an opening.
use Rattle.std.proofs.Common.{◌≡◌, ℕ, zero, suc, ◌+◌, ◌-◌, ◌*◌, ◌<◌, ◌≤◌, false, List, [], ◌∷◌, length, replicate, Option, Some, None, get_or, sym, refl, ◌∙◌, subst, arith}
use Rattle.std.specs.List.{sum_by}
use Rattle.std.proofs.lemmas.List.{ext_get_or, length-replicate}
use Rattle.std.proofs.lemmas.List.Sums.{sum_by-cons}
use Rattle.std.proofs.lemmas.List.Folds.{sum_by-replicate}
use Rattle.std.proofs.lemmas.Bool.Decides.{nat_tests}
use Rattle.daa_range.specs.Range.{RangeState, range_of, range_len, times_in}
use Rattle.daa_schedule.specs.Answers.{AreAnswers}
use Rattle.daa_schedule.specs.CoreState.{CoreState, no_units, range_at, hand_at, has_ended, opened, times_on, times_held, once_below, IsSoundWorker, IsWhole, hand_left, left_of}
use Rattle.daa_schedule.specs.Inside.CoreState.{IsShaped}
use Rattle.daa_schedule.specs.Step.{fault_of, moved, stepped, unless}
use Rattle.daa_schedule.specs.Runs.{run, is_end, counts, accepted, AllEnded}
use Rattle.daa_schedule.specs.declared.step.Step.{Step}
use Rattle.daa_schedule.specs.declared.step.Step.TheVariants.{Claim, Steal, Keep, Settle, End}
use Rattle.daa_schedule.specs.declared.step.StepFault.{StepFault}
use Rattle.daa_range.proofs.Ranges.{times_in_none}
use Rattle.daa_schedule.proofs.Faults.{claims, steals, keeps, settles, ends}
use Rattle.daa_schedule.proofs.Steps.{claim_whole, steal_whole, keep_whole, settle_whole, end_whole}
use Rattle.daa_schedule.proofs.Steps.{claim_shaped, steal_shaped, keep_shaped, settle_shaped, end_shaped}
use Rattle.daa_schedule.proofs.Steps.{claim_lowers, steal_lowers, keep_lowers, settle_lowers, left_none}

abbrev pub Good : CoreState → Type 0
Good c = IsShaped c × IsWhole c

pub moved_good : (c : CoreState) (step : Step) → Good c → fault_of c step ≡ None → Good (moved c step)
moved_good c (Claim by) g e = (claim_shaped c g.0 g.1 by, claim_whole c g.0 g.1 by (claims c by e))
moved_good c (Steal by other) g e = (steal_shaped c g.0 g.1 by other, steal_whole c g.0 g.1 by other (steals c by other e))
moved_good c (Keep by) g e = (keep_shaped c g.0 g.1 by, keep_whole c g.0 g.1 by (keeps c by e))
moved_good c (Settle by word) g e = (settle_shaped c g.0 g.1 by word, settle_whole c g.0 g.1 by word (settles c by word e))
moved_good c (End by) g e = (end_shaped c g.0 g.1 by, end_whole c g.0 g.1 by (ends c by e))

pub moved_lowers : (c : CoreState) (step : Step) → Good c → fault_of c step ≡ None → is_end step ≡ false → left_of (moved c step) < left_of c
moved_lowers c (Claim by) g e n = claim_lowers c g.0 g.1 by (claims c by e)
moved_lowers c (Steal by other) g e n = steal_lowers c g.0 g.1 by other (steals c by other e)
moved_lowers c (Keep by) g e n = keep_lowers c g.0 g.1 by (keeps c by e)
moved_lowers c (Settle by word) g e n = settle_lowers c g.0 g.1 by word (settles c by word e)
moved_lowers c (End by) g e n = cc

judged : (c : CoreState) (step : Step) (o : Option StepFault) → fault_of c step ≡ o → Good c → Good (unless o (moved c step) c)
judged c step None e g = moved_good c step g e
judged c step (Some f) e g = g

pub stepped_good : (c : CoreState) (step : Step) → Good c → Good (stepped c step)
stepped_good c step g = judged c step (fault_of c step) refl g

pub run_good : (c : CoreState) (steps : List Step) → Good c → Good (run c steps)
run_good c [] g = g
run_good c (s ∷ ss) g = run_good (stepped c s) ss (stepped_good c s g)

pub same_at : {A : Type 0} (n : ℕ) (x : A) (w : ℕ) → get_or (replicate n x) w x ≡ x
same_at zero x w = refl
same_at (suc n) x zero = refl
same_at (suc n) x (suc w) = same_at n x w

fair_none : IsSoundWorker no_units no_units false
fair_none = record { range_order = omega arith; hand_order = omega arith; stolen = λ more. absurd (omega arith); ended = λ e. cc }

opened_workers : (answers : List ℕ) (workers w : ℕ) → IsSoundWorker (range_at (opened answers workers) w) (hand_at (opened answers workers) w) (has_ended (opened answers workers) w)
opened_workers answers workers w = rw (same_at workers no_units w, same_at workers false w) (first w)
  where
    first : (w : ℕ) → IsSoundWorker (range_at (opened answers workers) w) no_units false
    first zero = record { range_order = omega arith; hand_order = omega arith; stolen = λ more. absurd (omega arith); ended = λ e. cc }
    first (suc w) = subst (λ (x : RangeState). IsSoundWorker x no_units false) (sym (same_at (workers - 1) no_units w)) fair_none

opened_once : (answers : List ℕ) (workers u : ℕ) → times_held u (opened answers workers) ≡ once_below u (length answers)
opened_once answers workers u =
    let n : ℕ = length answers in
    let a = sum_by-cons (times_in u) (range_of 0 n) (replicate (workers - 1) no_units) in
    let b = sum_by-replicate (times_in u) (workers - 1) no_units in
    let d = sum_by-replicate (times_in u) workers no_units in
    let z : times_in u no_units ≡ 0 = times_in_none u no_units (omega arith) refl in
    let o : times_on u (replicate n 0) ≡ 0 = grind (arith, nat_tests, same_at {A = ℕ} n 0 u) in
    let all : times_in u (range_of 0 n) ≡ once_below u n = grind (arith, nat_tests) in
    rw (a, b, d, z, o, all) (omega arith)

pub opened_good : (answers : List ℕ) (workers : ℕ) → 0 < workers → AreAnswers answers → Good (opened answers workers)
opened_good answers workers some real = (
  record {
    hands = let a = length-replicate workers no_units in let b = length-replicate (workers - 1) no_units in omega arith;
    ended = let a = length-replicate workers false in let b = length-replicate (workers - 1) no_units in omega arith;
    board = length-replicate (length answers) 0;
    answers = real;
  },
  record {
    once = opened_once answers workers;
    answered = λ u n. absurd (n (same_at (length answers) 0 u));
    workers = opened_workers answers workers;
  },
)

none_held : (u : ℕ) (xs : List RangeState) → ((w : ℕ) → w < length xs → times_in u (get_or xs w no_units) ≡ 0) → sum_by (times_in u) xs ≡ 0
none_held u [] h = refl
none_held u (x ∷ xs) h = let a = sum_by-cons (times_in u) x xs in let b = none_held u xs (λ w l. h (suc w) (omega arith)) in let d = h 0 (omega arith) in omega arith

-- where all have ended, the board is the list of answers
pub all_answered : (c : CoreState) → Good c → AllEnded c → c.board ≡ c.answers
all_answered c g over = let s = g.0 in let w = g.1 in
    ext_get_or 0 c.board c.answers s.board (λ u l. w.answered u (λ z.
    let rs = none_held u c.ranges (λ v k. let f = w.workers v in times_in_none u _ f.range_order (f.ended (over v k)).1) in
    let hs = none_held u c.hands (λ v k. let f = w.workers v in times_in_none u _ f.hand_order (f.ended (over v (let e = s.hands in omega arith))).0) in
    let o = w.once u in let b = s.board in
    let none : times_on u c.board ≡ 0 = grind (arith, nat_tests) in
    let one : once_below u (length c.answers) ≡ 1 = (let l' : u < length c.answers = omega arith in grind (arith, nat_tests)) in
    omega arith))

counted : (c : CoreState) (s : Step) (o : Option StepFault) → fault_of c s ≡ o → Good c → counts o s + left_of (unless o (moved c s) c) ≤ left_of c
counted c (Claim by) None e g = let l = moved_lowers c (Claim by) g e refl in omega arith
counted c (Steal by other) None e g = let l = moved_lowers c (Steal by other) g e refl in omega arith
counted c (Keep by) None e g = let l = moved_lowers c (Keep by) g e refl in omega arith
counted c (Settle by word) None e g = let l = moved_lowers c (Settle by word) g e refl in omega arith
counted c (End by) None e g = omega arith
counted c s (Some f) e g = omega arith

pub accepted_left : (c : CoreState) (steps : List Step) → Good c → accepted c steps + left_of (run c steps) ≤ left_of c
accepted_left c [] g = omega arith
accepted_left c (s ∷ ss) g = let a = counted c s (fault_of c s) refl g in let b = accepted_left (stepped c s) ss (stepped_good c s g) in omega arith

pub opened_left : (answers : List ℕ) (workers : ℕ) → left_of (opened answers workers) ≡ 3 * length answers
opened_left answers workers =
    let n : ℕ = length answers in
    let a = sum_by-cons range_len (range_of 0 n) (replicate (workers - 1) no_units) in
    let b = sum_by-replicate range_len (workers - 1) no_units in
    let d = sum_by-replicate (λ h. hand_left (range_len h)) workers no_units in
    rw (a, b, d) (omega (arith, left_none 0 refl))

moved_answers : (c : CoreState) (s : Step) → (moved c s).answers ≡ c.answers
moved_answers c (Claim by) = refl
moved_answers c (Steal by other) = refl
moved_answers c (Keep by) = refl
moved_answers c (Settle by word) = refl
moved_answers c (End by) = refl

unless_answers : (c : CoreState) (s : Step) (o : Option StepFault) → (unless o (moved c s) c).answers ≡ c.answers
unless_answers c s None = moved_answers c s
unless_answers c s (Some f) = refl

pub answers_kept : (c : CoreState) (steps : List Step) → (run c steps).answers ≡ c.answers
answers_kept c [] = refl
answers_kept c (s ∷ ss) = answers_kept (stepped c s) ss ∙ unless_answers c s (fault_of c s)
