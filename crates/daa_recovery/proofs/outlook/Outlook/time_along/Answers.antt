use Rattle.std.proofs.Common.{◌∙◌, ℕ, min, subst, ap, arith}
use Rattle.std.specs.Prelude.{slice_index_or}
use Rattle.daa_recovery.specs.OutlookState.{OutlookState}
use Rattle.daa_recovery.specs.Inside.Legs.{IsLastBefore}
use Rattle.daa_recovery.proofs.WalkedSides.{side_short, leaves_never, leaves_last, leaves_place, leaves_there-before}
use Rattle.daa_recovery.proofs.outlook.Outlook.time_along.Goals as goal

pub returns-then-side-leaves-clause-time : goal.returns-then-side-leaves-clause-time
returns-then-side-leaves-clause-time c = leaves_never c.args.self.now c.walk.new.side c.walk.ensures.side c.args.candidate c.args.branch.now
    c.requires.branch (c.walk.ensures.lead ∙ c.requires.lead) c.min-leaves.result
    (c.min-leaves.ensures ∙ ap (λ (q : OutlookState). min c.args.branch.now.leaves q.horizon) c.self.view_is) c.args.bound c.walk.ensures.done c.if-side-leaves.true

pub bounds-side-leaves : goal.bounds-side-leaves
bounds-side-leaves c =
    let short = side_short c.args.self.now c.walk.new.side c.walk.ensures.side in
    let e = ap (λ (q : OutlookState). q.horizon) c.self.view_is in omega (arith, c.min-leaves.ensures, e, short)

pub leg-requires-clause-k : goal.leg-requires-clause-k
leg-requires-clause-k c =
    let short = side_short c.args.self.now c.walk.new.side c.walk.ensures.side in
    let e = ap (λ (q : OutlookState). q.horizon) c.self.view_is in omega (arith, c.if-leaves-self.true, e, short)

pub time_from-requires-clause-place : goal.time_from-requires-clause-place
time_from-requires-clause-place c = leaves_place c.args.self.now c.walk.new.side c.walk.ensures.side c.args.candidate c.args.branch.now
    c.requires.branch (c.walk.ensures.lead ∙ c.requires.lead) c.min-leaves.result
    (c.min-leaves.ensures ∙ ap (λ (q : OutlookState). min c.args.branch.now.leaves q.horizon) c.self.view_is) c.leg.result.now
    (let e = ap (λ (q : OutlookState). q.horizon) c.self.view_is in omega (arith, c.if-leaves-self.true, e)) c.leg.ensures

pub time_from-requires-clause-last : goal.time_from-requires-clause-last
time_from-requires-clause-last c =
    let e = ap (λ (q : OutlookState). q.horizon) c.self.view_is in
    subst (λ (n : ℕ). IsLastBefore c.args.self.now c.args.candidate n (slice_index_or c.walk.new.side.lasts c.min-leaves.result 0))
    (leaves_there-before c.args.self.now c.walk.new.side c.walk.ensures.side c.args.candidate c.args.branch.now
    c.requires.branch (c.walk.ensures.lead ∙ c.requires.lead) c.min-leaves.result
    (c.min-leaves.ensures ∙ ap (λ (q : OutlookState). min c.args.branch.now.leaves q.horizon) c.self.view_is) (omega (arith, c.if-leaves-self.true, e)))
    (leaves_last c.args.self.now c.walk.new.side c.walk.ensures.side c.args.candidate c.args.branch.now
    c.requires.branch (c.walk.ensures.lead ∙ c.requires.lead) c.min-leaves.result
    (c.min-leaves.ensures ∙ ap (λ (q : OutlookState). min c.args.branch.now.leaves q.horizon) c.self.view_is) 0 (omega (arith, c.if-side-leaves.false)))

pub time_after-requires-clause-last : goal.time_after-requires-clause-last
time_after-requires-clause-last c =
    let e = ap (λ (q : OutlookState). q.horizon) c.self.view_is in
    subst (λ (n : ℕ). IsLastBefore c.args.self.now c.args.candidate n (slice_index_or c.walk.new.side.lasts c.min-leaves.result 0))
    (omega (arith, c.if-leaves-self.false, c.min-leaves.ensures, e))
    (leaves_last c.args.self.now c.walk.new.side c.walk.ensures.side c.args.candidate c.args.branch.now
    c.requires.branch (c.walk.ensures.lead ∙ c.requires.lead) c.min-leaves.result
    (c.min-leaves.ensures ∙ ap (λ (q : OutlookState). min c.args.branch.now.leaves q.horizon) c.self.view_is) 0 (omega (arith, c.if-side-leaves.false)))
