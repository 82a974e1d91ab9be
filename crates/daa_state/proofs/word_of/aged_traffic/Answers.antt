use Rattle.std.proofs.Common.{◌≡◌, arith, length, rules, [], Bor, List, ℕ}
use Rattle.daa_state.proofs.WordLemmas.{aged_traffic_of-eight}
use Rattle.daa_state.proofs.word_of.aged_traffic.Goals as goal

abbrev blank : Bor (List ℕ)
blank = record { ref_ptr = (0, 0); now = [] }

pub returns-in_err-traffic-in-len8-clause-value : goal.returns-in_err-traffic-in-len8-clause-value
returns-in_err-traffic-in-len8-clause-value c =
    let eight : length c.args.fields.now ≡ 8 = omega arith in
    rw (aged_traffic_of-eight c.args.fields.now blank eight) (search rules)

pub returns-in_err-age-in-len8-clause-value : goal.returns-in_err-age-in-len8-clause-value
returns-in_err-age-in-len8-clause-value c =
    let eight : length c.args.fields.now ≡ 8 = omega arith in
    rw (aged_traffic_of-eight c.args.fields.now blank eight) (search rules)

pub returns-in_ok-age-in-len8-clause-value : goal.returns-in_ok-age-in-len8-clause-value
returns-in_ok-age-in-len8-clause-value c =
    let eight : length c.args.fields.now ≡ 8 = omega arith in
    rw (aged_traffic_of-eight c.args.fields.now blank eight) (search rules)
