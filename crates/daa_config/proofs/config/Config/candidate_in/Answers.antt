use Rattle.std.proofs.Common.{◌∙◌, Some, ℤ, rules, sym, ap, w32, FitsSigned}
use Rattle.std.proofs.lemmas.Int.{to_z-of_z}
use Rattle.daa_config.specs.Candidates.{candidate_to}
use Rattle.daa_config.specs.declared.kind.Kind.{Kind}
use Rattle.daa_config.specs.declared.candidate.Candidate.TheVariants.{Track, GroundSpeed, VerticalSpeed, Altitude}
use Rattle.daa_config.proofs.CandidateLemmas.{candidate_at}
use Rattle.daa_config.proofs.config.Config.candidate_in.Goals as goal

pub returns-in-Track-clause-value : goal.returns-in-Track-clause-value
returns-in-Track-clause-value c =
    let v : ℤ = c.value-value.result in let f : FitsSigned w32 v = search rules in
    candidate_at c.args.kind c.args.self.now c.args.index v c.value-value.ensures.value
    ∙ ap (λ (k : Kind). Some (candidate_to k v)) c.in-Track.is ∙ ap (λ (z : ℤ). Some (Track z)) (sym (to_z-of_z w32 v f))

pub returns-in-GroundSpeed-clause-value : goal.returns-in-GroundSpeed-clause-value
returns-in-GroundSpeed-clause-value c =
    let v : ℤ = c.value-value.result in let f : FitsSigned w32 v = search rules in
    candidate_at c.args.kind c.args.self.now c.args.index v c.value-value.ensures.value
    ∙ ap (λ (k : Kind). Some (candidate_to k v)) c.in-GroundSpeed.is ∙ ap (λ (z : ℤ). Some (GroundSpeed z)) (sym (to_z-of_z w32 v f))

pub returns-in-VerticalSpeed-clause-value : goal.returns-in-VerticalSpeed-clause-value
returns-in-VerticalSpeed-clause-value c =
    let v : ℤ = c.value-value.result in let f : FitsSigned w32 v = search rules in
    candidate_at c.args.kind c.args.self.now c.args.index v c.value-value.ensures.value
    ∙ ap (λ (k : Kind). Some (candidate_to k v)) c.in-VerticalSpeed.is ∙ ap (λ (z : ℤ). Some (VerticalSpeed z)) (sym (to_z-of_z w32 v f))

pub returns-in-Altitude-clause-value : goal.returns-in-Altitude-clause-value
returns-in-Altitude-clause-value c =
    let v : ℤ = c.value-value.result in let f : FitsSigned w32 v = search rules in
    candidate_at c.args.kind c.args.self.now c.args.index v c.value-value.ensures.value
    ∙ ap (λ (k : Kind). Some (candidate_to k v)) c.in-Altitude.is ∙ ap (λ (z : ℤ). Some (Altitude z)) (sym (to_z-of_z w32 v f))
