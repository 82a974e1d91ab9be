use Rattle.std.proofs.Common.{◌≡◌, None, List, subst}
use Rattle.daa_state.specs.Checked.{first_out_of_range}
use Rattle.daa_state.specs.declared.checked.Number.{Number}
use Rattle.daa_state.proofs.TakenLemmas.{own_range}
use Rattle.daa_state.proofs.word.Own.check.Goals as goal

pub returns-clause-range : goal.returns-clause-range
returns-clause-range c =
    own_range c.args.self (subst (λ (numbers : List Number). first_out_of_range numbers ≡ None) c.own_numbers.ensures c.in_ok-test_all.ensures.within)
