use Rattle.std.proofs.Common.{◌≡◌, ◌∙◌, rules, sym, ap, subst, refl, w32, FitsSigned, to_z, of_z, arith}
use Rattle.std.proofs.lemmas.Int.{to_z-of_z}
use Rattle.daa_config.specs.declared.candidate.Candidate.{Candidate}
use Rattle.daa_config.specs.Candidates.{candidate_to}
use Rattle.daa_last.specs.Last.{IsOpenDelayed}
use Rattle.daa_last.proofs.Searching.{shut_more, shut_all}
use Rattle.daa_last.proofs.search.is_some_open.Goals as goal
use Rattle.daa_last.proofs.search.is_some_open.Goals.{After-closing}

-- the candidate that is tried
tried : (c : After-closing) → c.candidate_going_to-candidate.result ≡ candidate_to c.args.kind c.value.result
tried c =
    let f : FitsSigned w32 c.value.result = search rules in
    let back : to_z w32 (of_z w32 c.value.result) ≡ c.value.result = to_z-of_z w32 c.value.result f in
    c.candidate_going_to-candidate.ensures ∙ ap (candidate_to c.args.kind) back

pub returns-in-None : goal.returns-in-None
returns-in-None c = (
  (λ _. record {
    index = c.loop-index.index;
    value = c.value.result;
    there = c.value.ensures.value;
    is_open = subst (λ (x : Candidate). IsOpenDelayed c.args.config.now c.args.picture.now x c.args.m) (tried c.before) c.in-None.ensures.closes;
  }),
  (λ _. refl),
)

pub loop-index-preserved : goal.loop-index-preserved
loop-index-preserved c = record {
  walks = c.in-Some.ensures.walks;
  shut = shut_more c.args.config.now c.args.picture.now c.args.kind c.args.m c.loop-index.index c.value.result c.value.ensures.value
      (λ x. c.in-Some.ensures.closes (subst (λ (y : Candidate). IsOpenDelayed c.args.config.now c.args.picture.now y c.args.m) (sym (tried c.before)) x))
      c.loop-index.invariant.shut;
}

pub returns : goal.returns
returns c = (
  (λ t. absurd (cc t)),
  (λ x. absurd
      (shut_all c.args.config.now c.args.picture.now c.args.kind c.args.m c.loop-index.index
      (omega (arith, c.loop-index-test.false, c.count-index-end.ensures.value)) c.loop-index.invariant.shut x)),
)
