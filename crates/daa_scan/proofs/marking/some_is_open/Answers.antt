use Rattle.std.proofs.Common.{◌≡◌, ◌+◌, ◌<◌, ◌≤◌, ◌∙◌, ℕ, arith, ap, sym, ⊎_elim}
use Rattle.std.specs.Prelude.{slice_index, bit_or, bit_and}
use Rattle.std.specs.Int.{bit_at}
use Rattle.std.proofs.lemmas.Bool.{cases_lt}
use Rattle.std.proofs.lemmas.Nat.Bits.{bit_at_or, bit_at_and, bit_at-lt}
use Rattle.daa_scan.proofs.marking.some_is_open.Goals as goal

same_place : (at j i : ℕ) → at + i ≤ j → j < at + (i + 1) → at + i ≡ j
same_place at j i from before = omega (arith, from, before)

-- what either has, both have together
with_left : (a b i : ℕ) → bit_at a i ≡ 1 → bit_at (bit_or a b) i ≡ 1
with_left a b i has = omega (arith, has, bit_at_or a b i, bit_at-lt b i)

with_right : (a b i : ℕ) → bit_at b i ≡ 1 → bit_at (bit_or a b) i ≡ 1
with_right a b i has = omega (arith, has, bit_at_or a b i, bit_at-lt a i)

-- what both have, each has
of_left : (a b i : ℕ) → bit_at (bit_and a b) i ≡ 1 → bit_at a i ≡ 1
of_left a b i has = omega (arith, has, bit_at_and a b i, bit_at-lt a i, bit_at-lt b i)

of_right : (a b i : ℕ) → bit_at (bit_and a b) i ≡ 1 → bit_at b i ≡ 1
of_right a b i has = omega (arith, has, bit_at_and a b i, bit_at-lt a i, bit_at-lt b i)

pub loop-i-preserved : goal.loop-i-preserved
loop-i-preserved c =
    let mask : ℕ = slice_index c.args.masks.now (c.args.at + c.loop-i.i) in
    record {
      some = λ j k from before has. ⊎_elim
          (λ earlier. with_left c.loop-i.some mask k (c.loop-i.invariant.some j k from earlier has))
          (λ here. with_right c.loop-i.some mask k (ap (λ (n : ℕ). bit_at (slice_index c.args.masks.now n) k) (same_place c.args.at j c.loop-i.i here before) ∙ has))
          (cases_lt j (c.args.at + c.loop-i.i));
      all = λ j k from before has. ⊎_elim
          (λ earlier. c.loop-i.invariant.all j k from earlier (of_left c.loop-i.all mask k has))
          (λ here. ap (λ (n : ℕ). bit_at (slice_index c.args.masks.now n) k) (sym (same_place c.args.at j c.loop-i.i here before)) ∙ of_right c.loop-i.all mask k has)
          (cases_lt j (c.args.at + c.loop-i.i));
    }
