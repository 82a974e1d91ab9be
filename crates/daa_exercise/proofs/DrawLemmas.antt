-- What is drawn one output after another is what the outputs say by their places.
use Rattle.std.proofs.Common.{◌≡◌, ◌∙◌, ◌+◌, ◌%◌, ◌<◌, ◌≤◌, ℕ, zero, suc, ℤ, pos, ◌+ℤ◌, ◌-ℤ◌, ◌≤ℤ◌, neg_ℤ, nat_abs, List, FitsSigned, w32, refl, sym, ap, arith, suc-add, zero-add}
use Rattle.std.proofs.lemmas.Int.{ints, to_z_pos, to_z-of_z}
use mir.Val.{to_z, of_z}
use Rattle.rand_pcg.specs.Lcg.{Lcg, next_state, state_after}
use Rattle.rand_pcg.specs.Pcg.{multiplier_64, pcg32}
use Rattle.daa_exercise.specs.Outputs.{outputs_of, picked}
use Rattle.daa_exercise.specs.Inside.Drawing.{after, generator_of, name_of, outputs_from}
use Rattle.daa_exercise.specs.Moments.{own_at, aircraft_at}
use Rattle.daa_state.specs.Bounds.{exact}
use Rattle.daa_state.specs.declared.word.Own.{Own}
use Rattle.daa_state.specs.declared.word.Traffic.{Traffic}

-- ---- the generator

output_is : (seed k : ℕ) → outputs_of seed k ≡ outputs_from (generator_of seed) k
unfolding outputs_of outputs_from generator_of
output_is seed k = refl

-- the outputs of a seed are those of its generator
pub outputs_are : (seed : ℕ) → outputs_of seed ≡ outputs_from (generator_of seed)
outputs_are seed = λ i k. output_is seed k i

pub first_output : (g : Lcg) → outputs_from g 0 ≡ (pcg32 g).0
unfolding outputs_from state_after
first_output g = refl

pub one_after : (g : Lcg) → after 1 g ≡ (pcg32 g).1
unfolding after state_after
one_after g = refl

pub none_after : (g : Lcg) → after 0 g ≡ g
unfolding after state_after
none_after g = refl

state_more : (i m n s : ℕ) → state_after 64 multiplier_64 i n (state_after 64 multiplier_64 i m s) ≡ state_after 64 multiplier_64 i (m + n) s
unfolding state_after
state_more i zero n s = ap (λ (k : ℕ). state_after 64 multiplier_64 i k s) (sym (zero-add n))
state_more i (suc m) n s =
    state_more i m n (next_state 64 multiplier_64 i s) ∙ ap (λ (k : ℕ). state_after 64 multiplier_64 i k s) (sym (suc-add m n))

pub after_after : (m n : ℕ) (g : Lcg) → after n (after m g) ≡ after (m + n) g
unfolding after
after_after m n g = ap (λ (s : ℕ). let x : Lcg = record { state = s; increment = g.increment } in x) (state_more g.increment m n g.state)

pub outputs_after : (m k : ℕ) (g : Lcg) → outputs_from (after m g) k ≡ outputs_from g (m + k)
unfolding outputs_from after
outputs_after m k g = ap (λ (s : ℕ). let x : Lcg = record { state = s; increment = g.increment } in (pcg32 x).0) (state_more g.increment m k g.state)

-- ---- a number that an output picks

abbrev kept : ℤ → ℤ
kept z = to_z w32 (of_z w32 z)

pub computed : (low high : ℤ) (output : ℕ) → low ≤ℤ high → (high -ℤ low) ≤ℤ pos 2147483646 → FitsSigned w32 low → FitsSigned w32 high
    → kept (kept low +ℤ to_z w32 (output % (nat_abs (kept (kept high -ℤ kept low)) + 1))) ≡ low +ℤ pos (output % (nat_abs (high -ℤ low) + 1))
computed low high output ordered short fl fh =
    let fd : FitsSigned w32 (high -ℤ low) = omega (arith, ints) in
    let d : kept (kept high -ℤ kept low) ≡ high -ℤ low = rw (to_z-of_z w32 low fl, to_z-of_z w32 high fh) (to_z-of_z w32 _ fd) in
    let few : nat_abs (high -ℤ low) + 1 ≤ 2147483647 = omega (arith, ints) in
    let left : output % (nat_abs (high -ℤ low) + 1) < nat_abs (high -ℤ low) + 1 = omega arith in
    let n : to_z w32 (output % (nat_abs (high -ℤ low) + 1)) ≡ pos (output % (nat_abs (high -ℤ low) + 1)) = to_z_pos w32 _ (omega (arith, few, left)) in
    let f : FitsSigned w32 (low +ℤ pos (output % (nat_abs (high -ℤ low) + 1))) = within low high (output % (nat_abs (high -ℤ low) + 1)) left fl fh ordered in
    rw (d, n, to_z-of_z w32 low fl) (to_z-of_z w32 _ f)
  where
    within : (low high : ℤ) (x : ℕ) → x < nat_abs (high -ℤ low) + 1 → FitsSigned w32 low → FitsSigned w32 high → low ≤ℤ high → FitsSigned w32 (low +ℤ pos x)
    within low high x lt fl fh ordered = omega (arith, ints)

-- the output of a call is the first of what is left, and what is left then is left after one
pub first_is : (g h : Lcg) (output : ℕ) → (output, h) ≡ pcg32 g → output ≡ outputs_from g 0
first_is g h output e = ap (λ (p : ℕ × Lcg). p.0) e ∙ sym (first_output g)

pub rest_is : (g h : Lcg) (output : ℕ) → (output, h) ≡ pcg32 g → h ≡ after 1 g
rest_is g h output e = ap (λ (p : ℕ × Lcg). p.1) e ∙ sym (one_after g)

-- ---- one draw after another

-- what is left after one output more
pub next_after : (k : ℕ) (g h i : Lcg) → h ≡ after k g → i ≡ after 1 h → i ≡ after (k + 1) g
next_after k g h i e f = f ∙ ap (after 1) e ∙ after_after k 1 g

-- what the next output picks is what the output at that place picks
pub picks_at : (k : ℕ) (g h : Lcg) (low high z : ℤ) → h ≡ after k g → z ≡ picked low high (outputs_from h 0) → z ≡ picked low high (outputs_from g (k + 0))
picks_at k g h low high z e f = f ∙ ap (λ (x : Lcg). picked low high (outputs_from x 0)) e ∙ ap (picked low high) (outputs_after k 0 g)

abbrev pub own_of : (x y alt trk gs vs : ℤ) → Own
own_of x y alt trk gs vs = record { x = x; y = y; alt = alt; trk = trk; gs = gs; vs = vs }

-- the ownship of four draws
pub own_drawn : (g g1 g2 g3 g4 : Lcg) (alt trk gs vs : ℤ) → g1 ≡ after 1 g → g2 ≡ after 1 g1 → g3 ≡ after 1 g2 → g4 ≡ after 1 g3
    → alt ≡ picked (pos 0) (pos 20000) (outputs_from g 0) → trk ≡ picked (pos 0) (pos 359) (outputs_from g1 0)
    → gs ≡ picked (pos 500) (pos 5000) (outputs_from g2 0) → vs ≡ picked (neg_ℤ (pos 2000)) (pos 2000) (outputs_from g3 0)
    → (own_of (pos 0) (pos 0) alt trk gs vs ≡ own_at (outputs_from g) 0) × (g4 ≡ after 4 g)
unfolding own_at
own_drawn g g1 g2 g3 g4 alt trk gs vs e1 e2 e3 e4 h1 h2 h3 h4 =
    let a2 = next_after 1 g g1 g2 e1 e2 in
    let a3 = next_after 2 g g2 g3 a2 e3 in
    let k2 = picks_at 1 g g1 (pos 0) (pos 359) trk e1 h2 in
    let k3 = picks_at 2 g g2 (pos 500) (pos 5000) gs a2 h3 in
    let k4 = picks_at 3 g g3 (neg_ℤ (pos 2000)) (pos 2000) vs a3 h4 in
    ((λ i. own_of (pos 0) (pos 0) (h1 i) (k2 i) (k3 i) (k4 i)), next_after 3 g g3 g4 a3 e4)

pub fits_above : (altitude above : ℤ) → pos 0 ≤ℤ altitude → altitude ≤ℤ pos 20000 → neg_ℤ (pos 2000) ≤ℤ above → above ≤ℤ pos 2000
    → FitsSigned w32 (altitude +ℤ above)
fits_above altitude above low high least most = omega (arith, ints)

abbrev pub aircraft_of : List ℕ → (x y alt vx vy vs : ℤ) → Traffic
aircraft_of id x y alt vx vy vs = record { id = id; x = x; y = y; alt = alt; vx = vx; vy = vy; vs = vs; age = 0; bounds = exact }

-- the aircraft of six draws
pub aircraft_drawn : (g g1 g2 g3 g4 g5 g6 : Lcg) (altitude : ℤ) (number : ℕ) (id : List ℕ) (x y above vx vy vs : ℤ)
    → g1 ≡ after 1 g → g2 ≡ after 1 g1 → g3 ≡ after 1 g2 → g4 ≡ after 1 g3 → g5 ≡ after 1 g4 → g6 ≡ after 1 g5 → id ≡ name_of number
    → x ≡ picked (neg_ℤ (pos 8000)) (pos 8000) (outputs_from g 0) → y ≡ picked (neg_ℤ (pos 8000)) (pos 8000) (outputs_from g1 0)
    → above ≡ picked (neg_ℤ (pos 2000)) (pos 2000) (outputs_from g2 0) → vx ≡ picked (neg_ℤ (pos 5000)) (pos 5000) (outputs_from g3 0)
    → vy ≡ picked (neg_ℤ (pos 5000)) (pos 5000) (outputs_from g4 0) → vs ≡ picked (neg_ℤ (pos 2000)) (pos 2000) (outputs_from g5 0)
    → (aircraft_of id x y (altitude +ℤ above) vx vy vs ≡ aircraft_at (outputs_from g) altitude number 0) × (g6 ≡ after 6 g)
unfolding aircraft_at
aircraft_drawn g g1 g2 g3 g4 g5 g6 altitude number id x y above vx vy vs e1 e2 e3 e4 e5 e6 n h1 h2 h3 h4 h5 h6 =
    let a2 = next_after 1 g g1 g2 e1 e2 in
    let a3 = next_after 2 g g2 g3 a2 e3 in
    let a4 = next_after 3 g g3 g4 a3 e4 in
    let a5 = next_after 4 g g4 g5 a4 e5 in
    let k2 = picks_at 1 g g1 (neg_ℤ (pos 8000)) (pos 8000) y e1 h2 in
    let k3 = picks_at 2 g g2 (neg_ℤ (pos 2000)) (pos 2000) above a2 h3 in
    let k4 = picks_at 3 g g3 (neg_ℤ (pos 5000)) (pos 5000) vx a3 h4 in
    let k5 = picks_at 4 g g4 (neg_ℤ (pos 5000)) (pos 5000) vy a4 h5 in
    let k6 = picks_at 5 g g5 (neg_ℤ (pos 2000)) (pos 2000) vs a5 h6 in
    ((λ i. aircraft_of (n i) (h1 i) (k2 i) (altitude +ℤ k3 i) (k4 i) (k5 i) (k6 i)), next_after 5 g g5 g6 a5 e6)
