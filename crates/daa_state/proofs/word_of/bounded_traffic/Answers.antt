use Rattle.std.proofs.Common.{◌≡◌, arith, length, rules, [], Bor, List, ℕ}
use Rattle.daa_state.proofs.WordLemmas.{bounded_traffic_of-twelve}
use Rattle.daa_state.proofs.word_of.bounded_traffic.Goals as goal

abbrev blank : Bor (List ℕ)
blank = record { ref_ptr = (0, 0); now = [] }

pub returns-in_err-traffic-in-len12-clause-value : goal.returns-in_err-traffic-in-len12-clause-value
returns-in_err-traffic-in-len12-clause-value c =
    let twelve : length c.args.fields.now ≡ 12 = omega arith in
    rw (bounded_traffic_of-twelve c.args.fields.now blank twelve) (search rules)

pub returns-in_err-age-in-len12-clause-value : goal.returns-in_err-age-in-len12-clause-value
returns-in_err-age-in-len12-clause-value c =
    let twelve : length c.args.fields.now ≡ 12 = omega arith in
    rw (bounded_traffic_of-twelve c.args.fields.now blank twelve) (search rules)

pub returns-in_err-bounds-in-len12-clause-value : goal.returns-in_err-bounds-in-len12-clause-value
returns-in_err-bounds-in-len12-clause-value c =
    let twelve : length c.args.fields.now ≡ 12 = omega arith in
    rw (bounded_traffic_of-twelve c.args.fields.now blank twelve) (search rules)

pub returns-in_ok-bounds-in-len12-clause-value : goal.returns-in_ok-bounds-in-len12-clause-value
returns-in_ok-bounds-in-len12-clause-value c =
    let twelve : length c.args.fields.now ≡ 12 = omega arith in
    rw (bounded_traffic_of-twelve c.args.fields.now blank twelve) (search rules)
