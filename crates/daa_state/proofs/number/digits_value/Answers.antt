use Rattle.std.proofs.Common.{ℕ, arith, ◌<◌, ◌-◌, ◌+◌, ◌*◌, ◌∙◌, ◌^◌, get_or, sym, ap}
use Rattle.std.proofs.lemmas.List.Folds.{list_all_more}
use Rattle.std.specs.Char.{is_ascii_digit}
use Rattle.daa_state.proofs.Digits.{size_more, both, grown, below_most}
use Rattle.daa_state.proofs.number.digits_value.Goals as goal

pub loop-b-preserved : goal.loop-b-preserved
loop-b-preserved c =
    let all = list_all_more is_ascii_digit c.args.digits.now c.loop-b.b-index 0 c.loop-b-test.true in
    let yes = sym c.if-not-is_ascii_digit.ensures.value in
    let small : get_or c.args.digits.now c.loop-b.b-index 0 - 48 < 10 = omega (arith, c.if-not-is_ascii_digit.ensures.cases) in
    record {
      digits = both all c.loop-b.invariant.digits yes;
      value = ap (λ (v : ℕ). v * 10 + (get_or c.args.digits.now c.loop-b.b-index 0 - 48)) c.loop-b.invariant.value
          ∙ sym (size_more c.args.digits.now c.loop-b.b-index c.loop-b-test.true);
      bound = grown c.loop-b.value c.loop-b.b-index _ c.loop-b.invariant.bound small;
    }

pub overflow_mul-value : goal.overflow_mul-value
overflow_mul-value c =
    let most : c.loop-b.value < 10 ^ 18 = below_most _ c.loop-b.b-index c.loop-b.invariant.bound (omega arith) in
    omega arith

pub overflow_add-value : goal.overflow_add-value
overflow_add-value c =
    let most : c.loop-b.value < 10 ^ 18 = below_most _ c.loop-b.b-index c.loop-b.invariant.bound (omega arith) in
    omega (arith, c.if-not-is_ascii_digit.ensures.cases)

pub returns-clause-small : goal.returns-clause-small
returns-clause-small c = below_most _ c.loop-b.b-index c.loop-b.invariant.bound (omega arith)
