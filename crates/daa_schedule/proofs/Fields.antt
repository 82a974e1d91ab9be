-- The fields after a step, as the code leaves them, are those of a good core.
use Rattle.std.proofs.Common.{◌≡◌, ℕ, ◌-◌, ◌<◌, ◌≤◌, length, None, get_or, set, sym, ap, ◌∙◌, subst, arith}
use Rattle.std.proofs.lemmas.List.{get_or_read}
use Rattle.daa_range.specs.Range.{RangeState, range_len, lower_of, upper_of, first_unit_of, rest_of}
use Rattle.daa_schedule.specs.CoreState.{CoreState, no_units, range_at, hand_at}
use Rattle.daa_schedule.specs.Step.{fault_of}
use Rattle.daa_schedule.specs.declared.step.Step.TheVariants.{Claim, Steal, Keep, Settle}
use Rattle.daa_schedule.proofs.Faults.{claims, steals, keeps, settles}
use Rattle.daa_schedule.proofs.Steps.{in_hand, in_range}
use Rattle.daa_range.proofs.Ranges.{times_in_inside}
use Rattle.daa_schedule.proofs.Runs.{Good, moved_good}

two_changed : (c : CoreState) (i j : ℕ) (r r' h h' : RangeState) → r ≡ r' → h ≡ h'
    → Good (record c { ranges = set c.ranges i r'; hands = set c.hands j h' }) → Good (record c { ranges = set c.ranges i r; hands = set c.hands j h })
two_changed c i j r r' h h' e f g =
    subst (λ (x : RangeState). Good (record c { ranges = set c.ranges i x; hands = set c.hands j h })) (sym e)
    (subst (λ (x : RangeState). Good (record c { ranges = set c.ranges i r'; hands = set c.hands j x })) (sym f) g)

pub claim_closes : (c : CoreState) (by : ℕ) (x r h : RangeState) → Good c → fault_of c (Claim by) ≡ None
    → x ≡ get_or c.ranges by x → r ≡ rest_of x → h ≡ first_unit_of x → Good (record c { ranges = set c.ranges by r; hands = set c.hands by h })
claim_closes c by x r h g e at er eh = let k = claims c by e in let is : x ≡ range_at c by = get_or_read c.ranges by x k.known at no_units in
    two_changed c by by r _ h _ (er ∙ ap rest_of is) (eh ∙ ap first_unit_of is) (moved_good c (Claim by) g e)

pub steal_closes : (c : CoreState) (by other : ℕ) (x r h : RangeState) → Good c → fault_of c (Steal by other) ≡ None
    → x ≡ get_or c.ranges other x → r ≡ lower_of x → h ≡ upper_of x → Good (record c { ranges = set c.ranges other r; hands = set c.hands by h })
steal_closes c by other x r h g e at er eh = let k = steals c by other e in let is : x ≡ range_at c other = get_or_read c.ranges other x k.other_known at no_units in
    two_changed c other by r _ h _ (er ∙ ap lower_of is) (eh ∙ ap upper_of is) (moved_good c (Steal by other) g e)

hands_known : (c : CoreState) (by : ℕ) → Good c → by < length c.ranges → by < length c.hands
hands_known c by g h = let s = g.0 in let e = s.hands in omega arith

pub keep_closes : (c : CoreState) (by : ℕ) (x r h : RangeState) → Good c → fault_of c (Keep by) ≡ None
    → x ≡ get_or c.hands by x → r ≡ rest_of x → h ≡ first_unit_of x → Good (record c { ranges = set c.ranges by r; hands = set c.hands by h })
keep_closes c by x r h g e at er eh = let k = keeps c by e in let is : x ≡ hand_at c by = get_or_read c.hands by x (hands_known c by g k.known) at no_units in
    two_changed c by by r _ h _ (er ∙ ap rest_of is) (eh ∙ ap first_unit_of is) (moved_good c (Keep by) g e)

pub settle_closes : (c : CoreState) (by word f : ℕ) (x h : RangeState) → Good c → fault_of c (Settle by word) ≡ None
    → x ≡ get_or c.hands by x → f ≡ x.first → h ≡ no_units → Good (record c { hands = set c.hands by h; board = set c.board f word })
settle_closes c by word f x h g e at ef eh = let k = settles c by word e in let is : x ≡ hand_at c by = get_or_read c.hands by x (hands_known c by g k.known) at no_units in
    subst (λ (y : RangeState). Good (record c { hands = set c.hands by y; board = set c.board f word })) (sym eh)
    (subst (λ (n : ℕ). Good (record c { hands = set c.hands by no_units; board = set c.board n word })) (sym (ef ∙ ap (λ (y : RangeState). y.first) is)) (moved_good c (Settle by word) g e))

-- the units of a range have answers
pub range_below : (core : CoreState) (worker : ℕ) → Good core → worker < length core.ranges → 0 < range_len (range_at core worker) → (range_at core worker).upto ≤ length core.answers
range_below core worker g known some =
    let r : RangeState = range_at core worker in let last = in_range core g.0 g.1 worker
    (r.upto - 1) known (times_in_inside (r.upto - 1) r (omega arith) (omega arith)) in omega arith

-- the units of a hand have answers
pub hand_below : (core : CoreState) (worker : ℕ) → Good core → worker < length core.ranges → 0 < range_len (hand_at core worker) → (hand_at core worker).upto ≤ length core.answers
hand_below core worker g known some = let h : RangeState = hand_at core worker in let last = in_hand core g.0 g.1 worker
    (h.upto - 1) known (times_in_inside (h.upto - 1) h (omega arith) (omega arith)) in let low = last.0 in omega arith

-- the same of a range, or of a hand, that was read from the fields
pub range_read : (core after : CoreState) (worker : ℕ) (x : RangeState) → Good core → core ≡ after
    → worker < length after.ranges → x ≡ get_or core.ranges worker x → 0 < range_len x → x.upto ≤ length after.answers
range_read core after worker x g e known at some = let known' : worker < length core.ranges = subst (λ (d : CoreState). worker < length d.ranges) (sym e) known in
    let is : x ≡ range_at core worker = get_or_read core.ranges worker x known' at no_units in
    subst (λ (d : CoreState). x.upto ≤ length d.answers) e
    (subst (λ (y : RangeState). y.upto ≤ length core.answers) (sym is) (range_below core worker g known' (subst (λ (y : RangeState). 0 < range_len y) is some)))

pub hand_read : (core after : CoreState) (worker : ℕ) (x : RangeState) → Good core → core ≡ after
    → worker < length after.ranges → x ≡ get_or core.hands worker x → 0 < range_len x → x.upto ≤ length after.answers
hand_read core after worker x g e known at some = let known' : worker < length core.ranges = subst (λ (d : CoreState). worker < length d.ranges) (sym e) known in
    let is : x ≡ hand_at core worker = get_or_read core.hands worker x (hands_known core worker g known') at no_units in
    subst (λ (d : CoreState). x.upto ≤ length d.answers) e
    (subst (λ (y : RangeState). y.upto ≤ length core.answers) (sym is) (hand_below core worker g known' (subst (λ (y : RangeState). 0 < range_len y) is some)))
