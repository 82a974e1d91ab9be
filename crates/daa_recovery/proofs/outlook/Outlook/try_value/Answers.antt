use Rattle.std.proofs.Common.{◌≡◌, ◌∙◌, Bool, true, false, ℕ, ◌+◌, ℤ, Option, Some, None, rules, sym, ap, subst, w32, FitsSigned, to_z, of_z}
use Rattle.std.specs.Prelude.{slice_get, ◌↔◌, IsTrue}
use Rattle.std.proofs.lemmas.Int.{to_z-of_z}
use Rattle.daa_config.specs.declared.candidate.Candidate.{Candidate}
use Rattle.daa_config.specs.Candidates.{values_of, candidate_to}
use Rattle.daa_config.specs.declared.kind.Kind.{Kind}
use Rattle.daa_resolve.specs.declared.side.Side.{Side}
use Rattle.daa_recovery.specs.OutlookState.{OutlookState}
use Rattle.daa_recovery.specs.Recovery.{IsAmong}
use Rattle.daa_recovery.specs.Inside.Search.{bound_for, IsFoundBelow, IsLeastTime}
use Rattle.daa_recovery.proofs.Searching.{before_horizon, found_beside, found_kept, found_sooner}
use Rattle.daa_recovery.proofs.outlook.Outlook.try_value.Goals as goal

-- the same under other names
renamed : (p : OutlookState) (c d : Candidate) (b e : ℕ) (t u : Option ℕ) → c ≡ d → b ≡ e → t ≡ u → IsLeastTime p c b t → IsLeastTime p d e u
renamed p c d b e t u f g h x =
    subst (IsLeastTime p d e) h (subst (λ (n : ℕ). IsLeastTime p d n t) g (subst (λ (k : Candidate). IsLeastTime p k b t) f x))

-- what the test of a value says, under the value's own name
among_by : (side : Option Side) (kind : Kind) (now z v : ℤ) (r : Bool) → IsTrue r ↔ IsAmong side kind now z → z ≡ v → r ≡ true → IsAmong side kind now v
among_by side kind now z v r is e held = subst (IsAmong side kind now) e (is.0 held)

beside_by : (side : Option Side) (kind : Kind) (now z v : ℤ) (r : Bool) → IsTrue r ↔ IsAmong side kind now z → z ≡ v → r ≡ false → ¬ IsAmong side kind now v
beside_by side kind now z v r is e failed = λ among. let held : r ≡ true = is.1 (subst (IsAmong side kind now) (sym e) among) in cc

pub returns-in-Some-clause-found : goal.returns-in-Some-clause-found
returns-in-Some-clause-found c =
    let v : ℤ = c.value-value.result in
    let f : FitsSigned w32 v = search rules in
    let back : to_z w32 (of_z w32 v) ≡ v = to_z-of_z w32 v f in
    let p = c.args.self.now in
    let there = subst (λ (q : OutlookState). slice_get (values_of c.args.kind q.settings) c.args.index ≡ Some v) c.self.view_is c.value-value.ensures.value in
    let t = renamed p _ (candidate_to c.args.kind v) _ (bound_for p c.args.kind c.args.found v) _ (Some c.in-Some.after)
    (c.candidate_going_to-candidate.ensures ∙ ap (candidate_to c.args.kind) back)
    (c.bound-bound.ensures ∙ ap (bound_for p c.args.kind c.args.found) back) c.in-Some.is c.sooner_time.ensures.time in
    subst (λ (z : ℤ). IsFoundBelow p c.args.kind c.args.side (c.args.index + 1) (Some (record { after = c.in-Some.after; value = z }))) (sym back)
    (found_sooner p c.args.kind c.args.side c.args.index v there c.args.found c.in-Some.after c.requires.found
    (among_by c.args.side c.args.kind _ _ v _ c.is_among.ensures back c.if-not-is_among.false) t)

pub returns-in-None-clause-found : goal.returns-in-None-clause-found
returns-in-None-clause-found c =
    let v : ℤ = c.value-value.result in
    let f : FitsSigned w32 v = search rules in
    let back : to_z w32 (of_z w32 v) ≡ v = to_z-of_z w32 v f in
    let p = c.args.self.now in
    let there = subst (λ (q : OutlookState). slice_get (values_of c.args.kind q.settings) c.args.index ≡ Some v) c.self.view_is c.value-value.ensures.value in
    let t = renamed p _ (candidate_to c.args.kind v) _ (bound_for p c.args.kind c.args.found v) _ None
    (c.candidate_going_to-candidate.ensures ∙ ap (candidate_to c.args.kind) back)
    (c.bound-bound.ensures ∙ ap (bound_for p c.args.kind c.args.found) back) c.in-None.is c.sooner_time.ensures.time in
    found_kept p c.args.kind c.args.side c.args.index v there c.args.found c.requires.found t

pub bound-bound-requires : goal.bound-bound-requires
bound-bound-requires c = before_horizon c.args.self.now c.args.kind c.args.side c.args.index c.args.found c.requires.found.first

pub returns-then-not-is_among-clause-found : goal.returns-then-not-is_among-clause-found
returns-then-not-is_among-clause-found c =
    let v : ℤ = c.value-value.result in
    let f : FitsSigned w32 v = search rules in
    let back : to_z w32 (of_z w32 v) ≡ v = to_z-of_z w32 v f in
    let p = c.args.self.now in
    let there = subst (λ (q : OutlookState). slice_get (values_of c.args.kind q.settings) c.args.index ≡ Some v) c.self.view_is c.value-value.ensures.value in
    found_beside p c.args.kind c.args.side c.args.index v there c.args.found c.requires.found
    (beside_by c.args.side c.args.kind _ _ v _ c.is_among.ensures back c.if-not-is_among.true)
