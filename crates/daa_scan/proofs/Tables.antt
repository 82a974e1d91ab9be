-- The table of the branches, filled candidate by candidate.
use Rattle.std.proofs.Common.{◌≡◌, ℕ, ℤ, ◌+◌, ◌<◌, ◌≤◌, false, List, length, refl, sym, subst, ap, ◌∙◌, arith, ⊎_elim}
use Rattle.std.specs.Prelude.{slice_get, slice_index_or, Some}
use Rattle.std.proofs.Math.ListN.{set}
use Rattle.std.proofs.lemmas.Bool.{cases_eq, cases_lt}
use Rattle.std.proofs.lemmas.List.{get_or-set_same, get_or-set_other, length-set}
use Rattle.std.proofs.lemmas.Option.{same_Some, slice_get_within}
use Rattle.daa_config.specs.declared.candidate.Candidate.{Candidate}
use Rattle.daa_config.specs.declared.candidate.Candidate.TheVariants.{Hold}
use Rattle.daa_config.specs.declared.kind.Kind.{Kind}
use Rattle.daa_config.specs.declared.kind.Kind.TheVariants.{Track, GroundSpeed, VerticalSpeed, Altitude}
use Rattle.daa_config.specs.Candidates.{candidate_to, candidates_of, start_of, values_of}
use Rattle.daa_config.specs.Settings.{Settings, IsAccepted, rates_of}
use Rattle.daa_state.specs.declared.word.Own.{Own}
use Rattle.daa_legs.specs.declared.branch.Branch.{Branch}
use Rattle.daa_legs.specs.Table.{IsBranchOf}
use Rattle.daa_scan.specs.declared.needs.Needs.{Needs}
use Rattle.daa_scan.specs.Trunks.{is_needed, AreBranchesOf}
use Rattle.daa_scan.specs.Inside.Trunks.{AreBranchesBelow}
use Rattle.daa_scan.proofs.Marks.{of_kind, hold_there}

pub next_length : (i : ℕ) (branches : List Branch) (branch : Branch) → length (set branches i branch) ≡ length branches
next_length i branches branch = length-set branches i branch

-- a value to which a candidate goes is of one kind
one_kind : (first second : Kind) (y z : ℤ) → candidate_to first y ≡ candidate_to second z → first ≡ second
one_kind Track Track y z e = refl
one_kind Track GroundSpeed y z e = absurd (cc e)
one_kind Track VerticalSpeed y z e = absurd (cc e)
one_kind Track Altitude y z e = absurd (cc e)
one_kind GroundSpeed Track y z e = absurd (cc e)
one_kind GroundSpeed GroundSpeed y z e = refl
one_kind GroundSpeed VerticalSpeed y z e = absurd (cc e)
one_kind GroundSpeed Altitude y z e = absurd (cc e)
one_kind VerticalSpeed Track y z e = absurd (cc e)
one_kind VerticalSpeed GroundSpeed y z e = absurd (cc e)
one_kind VerticalSpeed VerticalSpeed y z e = refl
one_kind VerticalSpeed Altitude y z e = absurd (cc e)
one_kind Altitude Track y z e = absurd (cc e)
one_kind Altitude GroundSpeed y z e = absurd (cc e)
one_kind Altitude VerticalSpeed y z e = absurd (cc e)
one_kind Altitude Altitude y z e = refl

-- the present flight is of no kind
no_kind : (kind : Kind) (z : ℤ) → Hold ≡ candidate_to kind z → ⊥
no_kind Track z e = cc e
no_kind GroundSpeed z e = cc e
no_kind VerticalSpeed z e = cc e
no_kind Altitude z e = cc e

module _ (settings : Settings) (own : Own) (needs : Needs) where
  -- none yet: the first of the list is the present flight
  pub none_filled : (upto : ℕ) (branches : List Branch) → upto ≤ 1 → length (candidates_of settings) ≤ length branches → AreBranchesBelow settings own needs upto branches
  none_filled upto branches one room = record {
    room = room;
    each = λ i candidate d b there kind z e n. absurd (no_kind kind z (same_Some Hold candidate (sym (hold_there settings i (omega (arith, b, one))) ∙ there) ∙ e));
  }

  -- the next of them
  pub next_filled : (i : ℕ) (branches : List Branch) (branch : Branch) (candidate : Candidate) → slice_get (candidates_of settings) i ≡ Some candidate
      → IsBranchOf own (rates_of settings) candidate branch
      → AreBranchesBelow settings own needs i branches → AreBranchesBelow settings own needs (i + 1) (set branches i branch)
  next_filled i branches branch candidate listed is h = record {
    room = subst (λ (n : ℕ). length (candidates_of settings) ≤ n) (sym (length-set branches i branch)) h.room;
    each = λ j other d b there kind z of n. ⊎_elim
        (λ e. subst (λ (x : Branch). IsBranchOf own (rates_of settings) other x) (sym (ap (λ (n : ℕ). slice_index_or (set branches i branch) n d) e ∙ get_or-set_same branches i branch d inside))
        (subst (λ (x : Candidate). IsBranchOf own (rates_of settings) x branch) (same_Some candidate other (sym listed ∙ ap (slice_get (candidates_of settings)) (sym e) ∙ there)) is))
        (λ m. subst (λ (x : Branch). IsBranchOf own (rates_of settings) other x) (sym (get_or-set_other branches i j branch d m)) (h.each j other d (below j b m) there kind z of n))
        (cases_eq j i);
  }
    where
      inside : i < length branches
      inside = let w = slice_get_within (candidates_of settings) i candidate listed in omega (arith, w, h.room)

      below : (j : ℕ) → j < i + 1 → (j ≡ i → ⊥) → j < i
      below j b n = ⊎_elim (λ k. k) (λ k. absurd (n (omega (arith, b, k)))) (cases_lt j i)

  -- a kind that is not needed has none
  pub passed_over : (kind : Kind) (branches : List Branch) → IsAccepted settings → is_needed needs kind ≡ false → AreBranchesBelow settings own needs (start_of kind settings) branches
      → AreBranchesBelow settings own needs (start_of kind settings + length (values_of kind settings)) branches
  passed_over kind branches a idle h = record {
    room = h.room;
    each = λ i candidate d b there other z of n. ⊎_elim
        (λ before. h.each i candidate d before there other z of n)
        (λ within. let o = of_kind kind settings i candidate a within b there in
        let same : kind ≡ other = one_kind kind other o.0 z (sym o.1 ∙ of) in
        let none : is_needed needs other ≡ false = subst (λ (k : Kind). is_needed needs k ≡ false) same idle in
        absurd (cc (none, n)))
        (cases_lt i (start_of kind settings));
  }

  -- all of them
  pub all_filled : (upto : ℕ) (branches : List Branch) → length (candidates_of settings) ≤ upto → AreBranchesBelow settings own needs upto branches → AreBranchesOf settings own needs branches
  all_filled upto branches all h = record {
    room = h.room;
    each = λ i candidate d there. let w = slice_get_within (candidates_of settings) i candidate there in h.each i candidate d (omega (arith, w, all)) there;
  }
