-- The whole list of candidates by the lists of the kinds.
use Rattle.std.proofs.Common.{◌≡◌, ◌<◌, ◌≤◌, ◌+◌, ◌++◌, ◌∙◌, ℕ, zero, suc, List, [], ◌∷◌, length, map, Some, refl, ap, arith, length-append}
use Rattle.std.proofs.lemmas.List.{length-map}
use Rattle.std.proofs.lemmas.Option.{slice_get-map}
use Rattle.std.specs.Option.{option_map}
use Rattle.std.specs.Prelude.{ℤ, slice_get}
use Rattle.daa_fixed.specs.Size.{IsFrom}
use Rattle.daa_config.specs.Settings.{Settings, IsAccepted, IsInBounds, IsCandidateInRange, value_bounds}
use Rattle.daa_config.specs.Candidates.{values_of, least_of, greatest_of, candidates_of, candidate_to, start_of, IsCandidateOf}
use Rattle.daa_config.specs.declared.kind.Kind.{Kind}
use Rattle.daa_config.specs.declared.kind.Kind.TheVariants.{Track, GroundSpeed, VerticalSpeed, Altitude}
use Rattle.daa_config.specs.declared.candidate.Candidate.{Candidate}
use Rattle.daa_config.specs.declared.candidate.Candidate.TheVariants.{Hold}
use Rattle.daa_config.proofs.GridLemmas.{length-values, few_tracks, few_of_kind}

-- the candidates that go to the values of a kind
abbrev candidates_to : Kind → Settings → List Candidate
candidates_to k s = map (candidate_to k) (values_of k s)

length-to : (k : Kind) (s : Settings) → length (candidates_to k s) ≡ length (values_of k s)
length-to k s = length-map (values_of k s) (candidate_to k)

pub length_candidates : (s : Settings)
    → length (candidates_of s) ≡ 1 + length (values_of Track s) + length (values_of GroundSpeed s) + length (values_of VerticalSpeed s) + length (values_of Altitude s)
unfolding candidates_of
length_candidates s =
    let t = candidates_to Track s in let g = candidates_to GroundSpeed s in let v = candidates_to VerticalSpeed s in let a = candidates_to Altitude s ++ [] in
    omega (
      arith,
      length-append t (g ++ (v ++ a)),
      length-append g (v ++ a),
      length-append v a,
      length-append (candidates_to Altitude s) [],
      length-to Track s,
      length-to GroundSpeed s,
      length-to VerticalSpeed s,
      length-to Altitude s,
    )

-- the candidates of a kind are in the whole list
pub kind_within : (k : Kind) (s : Settings) → start_of k s + length (values_of k s) ≤ length (candidates_of s)
unfolding start_of
kind_within Track s = omega (arith, length_candidates s)
kind_within GroundSpeed s = omega (arith, length_candidates s)
kind_within VerticalSpeed s = omega (arith, length_candidates s)
kind_within Altitude s = omega (arith, length_candidates s)

-- each kind begins where the one before it ends
pub record AreInTurn (s : Settings) : Type 0 where
  pub speed : start_of GroundSpeed s ≡ start_of Track s + length (values_of Track s)
  pub climb : start_of VerticalSpeed s ≡ start_of GroundSpeed s + length (values_of GroundSpeed s)
  pub height : start_of Altitude s ≡ start_of VerticalSpeed s + length (values_of VerticalSpeed s)

pub begins : (s : Settings) → AreInTurn s
unfolding start_of
begins s = record { speed = refl; climb = refl; height = refl }

-- the altitudes are the last
pub whole_ends : (s : Settings) → start_of Altitude s + length (values_of Altitude s) ≡ length (candidates_of s)
unfolding start_of
whole_ends s = omega (arith, length_candidates s)

-- 1 for Hold, 360 tracks and three times 512
pub few_candidates : (s : Settings) → IsAccepted s → length (candidates_of s) ≤ 1897
few_candidates s h =
    omega (
      arith,
      length_candidates s,
      length-values Track s,
      length-values GroundSpeed s,
      length-values VerticalSpeed s,
      length-values Altitude s,
      few_tracks s,
      few_of_kind s GroundSpeed h,
      few_of_kind s VerticalSpeed h,
      few_of_kind s Altitude h,
    )

pub kind_few : (k : Kind) (s : Settings) → IsAccepted s → start_of k s + length (values_of k s) ≤ 1897
kind_few k s h = omega (arith, kind_within k s, few_candidates s h)

-- ---- by places

get_left : {X : Type 0} (xs ys : List X) (i : ℕ) (x : X) → slice_get xs i ≡ Some x → slice_get (xs ++ ys) i ≡ Some x
get_left [] ys i x e = cc
get_left (z ∷ xs) ys zero x e = e
get_left (z ∷ xs) ys (suc i) x e = get_left xs ys i x e

get_right : {X : Type 0} (xs ys : List X) (i : ℕ) → slice_get (xs ++ ys) (length xs + i) ≡ slice_get ys i
get_right [] ys i = ap (slice_get ys) (omega arith)
get_right (x ∷ xs) ys i = let e : length (x ∷ xs) + i ≡ suc (length xs + i) = omega arith in ap (slice_get (x ∷ (xs ++ ys))) e ∙ get_right xs ys i

get_to : (k : Kind) (s : Settings) (i : ℕ) (v : ℤ) → slice_get (values_of k s) i ≡ Some v → slice_get (candidates_to k s) i ≡ Some (candidate_to k v)
get_to k s i v e = slice_get-map (candidate_to k) (values_of k s) i ∙ ap (option_map (candidate_to k)) e

-- Hold is the first
pub hold_first : (s : Settings) (i : ℕ) → i < start_of Track s → slice_get (candidates_of s) i ≡ Some Hold
unfolding candidates_of start_of
hold_first s zero h = refl
hold_first s (suc i) h = absurd (omega arith)

-- the candidate at an index of a kind stands that far past the kind's start
pub candidate_at : (k : Kind) (s : Settings) (i : ℕ) (v : ℤ) → slice_get (values_of k s) i ≡ Some v
    → slice_get (candidates_of s) (start_of k s + i) ≡ Some (candidate_to k v)
unfolding candidates_of start_of
candidate_at Track s i v e =
    let t = candidates_to Track s in let r = candidates_to GroundSpeed s ++ (candidates_to VerticalSpeed s ++ (candidates_to Altitude s ++ [])) in
    let j : 1 + i ≡ suc i = omega arith in
    ap (slice_get (Hold ∷ (t ++ r))) j ∙ get_left t r i _ (get_to Track s i v e)
candidate_at GroundSpeed s i v e =
    let t = candidates_to Track s in let g = candidates_to GroundSpeed s in let r = candidates_to VerticalSpeed s ++ (candidates_to Altitude s ++ []) in
    let lt = length-to Track s in
    let j : 1 + length (values_of Track s) + i ≡ suc (length t + i) = omega arith in
    ap (slice_get (Hold ∷ (t ++ (g ++ r)))) j ∙ get_right t (g ++ r) i ∙ get_left g r i _ (get_to GroundSpeed s i v e)
candidate_at VerticalSpeed s i v e =
    let t = candidates_to Track s in let g = candidates_to GroundSpeed s in let w = candidates_to VerticalSpeed s in let a = candidates_to Altitude s ++ [] in
    let lt = length-to Track s in let lg = length-to GroundSpeed s in
    let j : 1 + length (values_of Track s) + length (values_of GroundSpeed s) + i ≡ suc (length t + (length g + i)) = omega arith in
    ap (slice_get (Hold ∷ (t ++ (g ++ (w ++ a))))) j ∙ get_right t (g ++ (w ++ a)) (length g + i) ∙ get_right g (w ++ a) i ∙ get_left w a i _ (get_to VerticalSpeed s i v e)
candidate_at Altitude s i v e =
    let t = candidates_to Track s in let g = candidates_to GroundSpeed s in let w = candidates_to VerticalSpeed s in let a = candidates_to Altitude s ++ [] in
    let lt = length-to Track s in let lg = length-to GroundSpeed s in let lw = length-to VerticalSpeed s in
    let j : 1 + length (values_of Track s) + length (values_of GroundSpeed s) + length (values_of VerticalSpeed s) + i ≡ suc (length t + (length g + (length w + i))) = omega arith in
    ap (slice_get (Hold ∷ (t ++ (g ++ (w ++ a))))) j ∙ get_right t (g ++ (w ++ a)) (length g + (length w + i)) ∙ get_right g (w ++ a) (length w + i)
    ∙ get_right w a i ∙ get_left (candidates_to Altitude s) [] i _ (get_to Altitude s i v e)

-- ---- ranges of what is listed

pub in_range-to : (k : Kind) (z : ℤ) → IsInBounds (value_bounds k) z → IsCandidateInRange (candidate_to k z)
in_range-to Track z h = h
in_range-to GroundSpeed z h = h
in_range-to VerticalSpeed z h = h
in_range-to Altitude z h = h

pub of-to : (s : Settings) (k : Kind) (z : ℤ) → IsFrom (least_of k s) (greatest_of k s) z → IsCandidateOf s (candidate_to k z)
of-to s Track z h = h
of-to s GroundSpeed z h = h
of-to s VerticalSpeed z h = h
of-to s Altitude z h = h
