use Rattle.std.proofs.Common.{◌≡◌, None, List, ap, sym, subst, rules}
use Rattle.daa_state.specs.Checked.{first_out_of_range, traffic_numbers}
use Rattle.daa_state.specs.declared.checked.Number.{Number}
use Rattle.daa_state.proofs.TakenLemmas.{traffic_range}
use Rattle.daa_state.proofs.word.Traffic.check.Goals as goal

pub returns-clause-range : goal.returns-clause-range
returns-clause-range c =
    traffic_range c.args.self c.bytes-bytes.ensures.identifier
    (subst (λ (numbers : List Number). first_out_of_range numbers ≡ None) c.traffic_numbers.ensures c.in_ok-test_all.ensures.within)

pub returns-in_err-test_all-clause-refused : goal.returns-in_err-test_all-clause-refused
returns-in_err-test_all-clause-refused c =
    let same : first_out_of_range c.traffic_numbers.result ≡ first_out_of_range (traffic_numbers c.args.self) = ap first_out_of_range c.traffic_numbers.ensures in
    rw (sym same) (search rules)
