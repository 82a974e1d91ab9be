use Rattle.std.proofs.Common.{rules, ℕ, ◌+◌, sym, subst, arith, length, FitsSigned, w32, to_z-of_z}
use Rattle.daa_config.specs.declared.kind.Kind.TheVariants.{Track, Altitude}
use Rattle.daa_config.specs.Candidates.{start_of, values_of}
use Rattle.daa_config.proofs.CandidateLemmas.{begins, whole_ends}
use Rattle.daa_scan.specs.Inside.Trunks.{AreBranchesBelow}
use Rattle.daa_scan.proofs.Marks.{track_first}
use Rattle.daa_scan.proofs.Tables.{none_filled, all_filled}
use Rattle.daa_scan.proofs.table.fill_branches.Goals as goal

pub fill_kind-requires-clause-present : goal.fill_kind-requires-clause-present
fill_kind-requires-clause-present c =
    let g : FitsSigned w32 c.args.own.now.gs = search rules in
    let t : FitsSigned w32 c.args.own.now.trk = search rules in
    simp to_z-of_z at c.velocity-present.ensures

pub fill_kind-requires-2-clause-present : goal.fill_kind-requires-2-clause-present
fill_kind-requires-2-clause-present c =
    let g : FitsSigned w32 c.args.own.now.gs = search rules in
    let t : FitsSigned w32 c.args.own.now.trk = search rules in
    simp to_z-of_z at c.velocity-present.ensures

pub fill_kind-requires-3-clause-present : goal.fill_kind-requires-3-clause-present
fill_kind-requires-3-clause-present c =
    let g : FitsSigned w32 c.args.own.now.gs = search rules in
    let t : FitsSigned w32 c.args.own.now.trk = search rules in
    simp to_z-of_z at c.velocity-present.ensures

pub fill_kind-requires-4-clause-present : goal.fill_kind-requires-4-clause-present
fill_kind-requires-4-clause-present c =
    let g : FitsSigned w32 c.args.own.now.gs = search rules in
    let t : FitsSigned w32 c.args.own.now.trk = search rules in
    simp to_z-of_z at c.velocity-present.ensures

pub fill_kind-requires-clause-before : goal.fill_kind-requires-clause-before
fill_kind-requires-clause-before c = let t = track_first c.args.config.now in none_filled c.args.config.now c.args.own.now c.args.needs.now
    (start_of Track c.args.config.now) c.args.branches.now (omega (arith, t)) c.requires.room

pub fill_kind-requires-2-clause-before : goal.fill_kind-requires-2-clause-before
fill_kind-requires-2-clause-before c = subst (λ (n : ℕ). AreBranchesBelow c.args.config.now c.args.own.now c.args.needs.now n c.fill_kind.new.branches)
    (sym (begins c.args.config.now).speed) c.fill_kind.ensures.branches

pub fill_kind-requires-3-clause-before : goal.fill_kind-requires-3-clause-before
fill_kind-requires-3-clause-before c = subst (λ (n : ℕ). AreBranchesBelow c.args.config.now c.args.own.now c.args.needs.now n c.fill_kind-2.new.branches)
    (sym (begins c.args.config.now).climb) c.fill_kind-2.ensures.branches

pub fill_kind-requires-4-clause-before : goal.fill_kind-requires-4-clause-before
fill_kind-requires-4-clause-before c = subst (λ (n : ℕ). AreBranchesBelow c.args.config.now c.args.own.now c.args.needs.now n c.fill_kind-3.new.branches)
    (sym (begins c.args.config.now).height) c.fill_kind-3.ensures.branches

pub returns-clause-branches : goal.returns-clause-branches
returns-clause-branches c =
    let w = whole_ends c.args.config.now in
    all_filled c.args.config.now c.args.own.now c.args.needs.now (start_of Altitude c.args.config.now + length (values_of Altitude c.args.config.now))
    c.fill_kind-4.new.branches (omega (arith, w)) c.fill_kind-4.ensures.branches
