-- What a candidate of the whole list is.
use Rattle.std.proofs.Common.{◌≡◌, ℕ, ◌+◌, ◌-◌, ◌<◌, ◌≤◌, ℤ, pos, ◌+ℤ◌, ◌*ℤ◌, Some, length, sym, ap, subst, ◌∙◌, arith, ⊎_elim}
use Rattle.std.specs.Prelude.{slice_get}
use Rattle.std.proofs.lemmas.Bool.{cases_lt}
use Rattle.std.proofs.lemmas.Option.{same_Some, slice_get_within}
use Rattle.daa_config.specs.declared.candidate.Candidate.{Candidate}
use Rattle.daa_config.specs.declared.candidate.Candidate.TheVariants.{Hold}
use Rattle.daa_config.specs.declared.kind.Kind.{Kind}
use Rattle.daa_config.specs.declared.kind.Kind.TheVariants.{Track, GroundSpeed, VerticalSpeed, Altitude}
use Rattle.daa_config.specs.Candidates.{grid_of, values_of, candidates_of, candidate_to, start_of, IsCandidateOf}
use Rattle.daa_config.specs.Settings.{Settings, IsAccepted, IsCandidateInRange}
use Rattle.daa_config.proofs.GridLemmas.{value_there}
use Rattle.daa_config.proofs.CandidateLemmas.{begins, whole_ends, hold_first, candidate_at, in_range-to, of-to}

pub record IsListed (s : Settings) (candidate : Candidate) : Type 0 where
  pub of : IsCandidateOf s candidate
  pub in_range : IsCandidateInRange candidate

module _ (s : Settings) (a : IsAccepted s) (index : ℕ) (candidate : Candidate) (there : slice_get (candidates_of s) index ≡ Some candidate) where
  is_hold : index < start_of Track s → IsListed s candidate
  is_hold h = subst (λ (c : Candidate). IsListed s c) (same_Some Hold candidate (sym (hold_first s index h) ∙ there)) (record { of = tt; in_range = tt })

  is_going : (k : Kind) → start_of k s ≤ index → index < start_of k s + length (values_of k s) → IsListed s candidate
  is_going k h l =
      let i : ℕ = index - start_of k s in
      let z : ℤ = (grid_of k s).min +ℤ pos i *ℤ (grid_of k s).step in
      let v = value_there k s i a (omega (arith, h, l)) in
      let back : start_of k s + i ≡ index = omega (arith, h) in
      let its = candidate_at k s i z v.there in
      subst (λ (c : Candidate). IsListed s c) (same_Some (candidate_to k z) candidate (sym its ∙ ap (slice_get (candidates_of s)) back ∙ there))
      (record { of = of-to s k z v.within; in_range = in_range-to k z v.in_range })

  pub listed : IsListed s candidate
  listed =
      let t = begins s in
      let e = whole_ends s in
      let l = slice_get_within (candidates_of s) index candidate there in
      ⊎_elim is_hold (λ g. ⊎_elim (λ h. is_going Track g (omega (arith, h, t.speed)))
      (λ g. ⊎_elim (λ h. is_going GroundSpeed g (omega (arith, h, t.climb)))
      (λ g. ⊎_elim (λ h. is_going VerticalSpeed g (omega (arith, h, t.height)))
      (λ g. is_going Altitude g (omega (arith, l, e)))
      (cases_lt index (start_of Altitude s)))
      (cases_lt index (start_of VerticalSpeed s)))
      (cases_lt index (start_of GroundSpeed s)))
      (cases_lt index (start_of Track s))
