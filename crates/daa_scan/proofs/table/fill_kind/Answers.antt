use Rattle.std.proofs.Common.{◌≡◌, ◌+◌, ◌∙◌, ℕ, refl, ap, sym, subst, arith, length, slice_set, Some}
use Rattle.std.specs.Prelude.{slice_get}
use Rattle.daa_config.specs.Candidates.{candidates_of, start_of, values_of}
use Rattle.daa_config.specs.declared.config.Rates.{Rates}
use Rattle.daa_legs.specs.Branch.{rate_for}
use Rattle.daa_legs.specs.Table.{IsBranchOf}
use Rattle.daa_scan.specs.Inside.Trunks.{AreBranchesBelow}
use Rattle.daa_scan.proofs.Tables.{next_filled, next_length, passed_over}
use Rattle.daa_scan.proofs.table.fill_kind.Goals as goal

pub returns-then-not-has-clause-branches : goal.returns-then-not-has-clause-branches
returns-then-not-has-clause-branches c = passed_over c.args.config.now c.args.own.now c.args.needs.now c.args.kind c.args.branches.now c.start-start.ensures.accepted (cc
    (c.has.ensures, c.if-not-has.true)) c.requires.before

pub loop-index-init : goal.loop-index-init
loop-index-init c =
    let at : start_of c.args.kind c.args.config.now ≡ c.start-start.result + 0 = omega (arith, c.start-start.ensures.value) in
    record {
      filled = subst (λ (n : ℕ). AreBranchesBelow c.args.config.now c.args.own.now c.args.needs.now n c.args.branches.now) at c.requires.before;
      length_ = refl;
    }

pub loop-index-preserved : goal.loop-index-preserved
loop-index-preserved c =
    let more : c.start-start.result + c.loop-index.index + 1 ≡ c.start-start.result + (c.loop-index.index + 1) = omega arith in
    let listed : slice_get (candidates_of c.args.config.now) (c.start-start.result + c.loop-index.index) ≡ Some c.candidate_in-candidate.result =
    ap (λ (n : ℕ). slice_get (candidates_of c.args.config.now) (n + c.loop-index.index)) c.start-start.ensures.value ∙ c.candidate_in-candidate.ensures.value in
    let is = subst (λ (r : Rates). IsBranchOf c.args.own.now r c.candidate_in-candidate.result c.keep.new.branch) c.rates-rates.ensures.value c.keep.ensures in
    record {
      filled = subst (λ (n : ℕ). AreBranchesBelow c.args.config.now c.args.own.now c.args.needs.now n (slice_set c.loop-index.branches (c.start-start.result + c.loop-index.index)
          c.keep.new.branch)) more
          (next_filled c.args.config.now c.args.own.now c.args.needs.now (c.start-start.result + c.loop-index.index) c.loop-index.branches c.keep.new.branch
          c.candidate_in-candidate.result listed is c.loop-index.invariant.filled);
      length_ = next_length (c.start-start.result + c.loop-index.index) c.loop-index.branches c.keep.new.branch ∙ c.loop-index.invariant.length_;
    }

pub returns-clause-branches : goal.returns-clause-branches
returns-clause-branches c =
    let all : c.start-start.result + c.loop-index.index ≡ start_of c.args.kind c.args.config.now + length (values_of c.args.kind c.args.config.now) = omega (
      arith,
      c.start-start.ensures.value,
      c.loop-index-test.false,
      c.loop-index.auto.index-end,
      c.count-index-end.ensures.value,
    ) in
    subst (λ (n : ℕ). AreBranchesBelow c.args.config.now c.args.own.now c.args.needs.now n c.loop-index.branches) all c.loop-index.invariant.filled

pub keep-requires-clause-divisor : goal.keep-requires-clause-divisor
keep-requires-clause-divisor c =
    let o = c.candidate_in-candidate.ensures.of in
    c.divisor_of-divisor.ensures o.0 ∙ ap (rate_for c.rates-rates.result) (sym o.1)
