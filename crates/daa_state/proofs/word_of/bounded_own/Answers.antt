use Rattle.std.proofs.Common.{◌≡◌, arith, length, rules, [], Bor, List, ℕ}
use Rattle.daa_state.proofs.WordLemmas.{bounded_own_of-ten}
use Rattle.daa_state.proofs.word_of.bounded_own.Goals as goal

abbrev blank : Bor (List ℕ)
blank = record { ref_ptr = (0, 0); now = [] }

pub returns-in_err-own-in-len10-clause-value : goal.returns-in_err-own-in-len10-clause-value
returns-in_err-own-in-len10-clause-value c =
    let ten : length c.args.fields.now ≡ 10 = omega arith in
    rw (bounded_own_of-ten c.args.fields.now blank ten) (search rules)

pub returns-in_err-bounds-in-len10-clause-value : goal.returns-in_err-bounds-in-len10-clause-value
returns-in_err-bounds-in-len10-clause-value c =
    let ten : length c.args.fields.now ≡ 10 = omega arith in
    rw (bounded_own_of-ten c.args.fields.now blank ten) (search rules)

pub returns-in_ok-bounds-in-len10-clause-value : goal.returns-in_ok-bounds-in-len10-clause-value
returns-in_ok-bounds-in-len10-clause-value c =
    let ten : length c.args.fields.now ≡ 10 = omega arith in
    rw (bounded_own_of-ten c.args.fields.now blank ten) (search rules)
