use Rattle.std.proofs.Common.{◌≡◌, ◌+◌, ◌-◌, ◌<◌, ◌≤◌, ◌∙◌, ℕ, arith, ap, ⊎_elim}
use Rattle.std.specs.Prelude.{slice_index, bit_or}
use Rattle.std.specs.Int.{bit_at}
use Rattle.std.proofs.lemmas.Bool.{cases_lt}
use Rattle.std.proofs.lemmas.Nat.Bits.{bit_at_or, bit_at-lt}
use Rattle.daa_scan.proofs.marking.some_has_level.Goals as goal

same_place : (first j index : ℕ) → index ≤ first + j → first + j < index + 1 → index - first ≡ j
same_place first j index from before = omega (arith, from, before)

-- what either has, both have together
with_left : (a b i : ℕ) → bit_at a i ≡ 1 → bit_at (bit_or a b) i ≡ 1
with_left a b i has = omega (arith, has, bit_at_or a b i, bit_at-lt b i)

with_right : (a b i : ℕ) → bit_at b i ≡ 1 → bit_at (bit_or a b) i ≡ 1
with_right a b i has = omega (arith, has, bit_at_or a b i, bit_at-lt a i)

pub loop-index-preserved : goal.loop-index-preserved
loop-index-preserved c j from before has = ⊎_elim
    (λ earlier. with_left c.loop-index.all (slice_index c.args.masks.now (c.loop-index.index - c.args.first)) (c.args.l - 1) (c.loop-index.invariant j from earlier has))
    (λ here. with_right c.loop-index.all (slice_index c.args.masks.now (c.loop-index.index - c.args.first)) (c.args.l - 1)
    (ap (λ (n : ℕ). bit_at (slice_index c.args.masks.now n) (c.args.l - 1)) (same_place c.args.first j c.loop-index.index here before) ∙ has))
    (cases_lt (c.args.first + j) c.loop-index.index)
