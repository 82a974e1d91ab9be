-- Where a board stands for what is covered, its answers are those over what is covered.
use Rattle.std.proofs.Common.{◌≡◌, ◌<◌, ◌≤◌, ◌+◌, ℕ, ℤ, pos, ◌≤ℤ◌, List, Some, length, slice_get, arith}
use Rattle.std.proofs.lemmas.Int.{ints}
use Rattle.std.proofs.lemmas.Option.{slice_get_within}
use Rattle.daa_config.specs.Candidates.{values_of, start_of, candidates_of}
use Rattle.daa_config.specs.Settings.{Settings, IsAccepted}
use Rattle.daa_config.specs.declared.candidate.Resolution.{Resolution}
use Rattle.daa_config.specs.declared.candidate.Resolution.TheVariants.{Keep, To, Nothing}
use Rattle.daa_config.specs.declared.kind.Kind.{Kind}
use Rattle.daa_config.proofs.CandidateLemmas.{kind_within, length_candidates}
use Rattle.daa_state.specs.declared.word.Own.{Own}
use Rattle.daa_bands.specs.Board.{HasLevelOn, IsBoardOf}
use Rattle.daa_resolve.specs.Open.{IsOpen}
use Rattle.daa_resolve.specs.Resolution.{IsOpenOnSide, IsResolution}
use Rattle.daa_resolve.specs.declared.side.Side.{Side}

module _ (Covered : ℕ → ℕ → Type 0) (s : Settings) (board : List ℕ) (ok : IsAccepted s) (is : IsBoardOf Covered s board) where
  one_up : (l : ℕ) → s.numbers.resolve ≤ℤ pos l → 1 ≤ l
  one_up l h = let r = ok.resolve.least in omega (arith, ints)

  opened : (index : ℕ) → index < length (candidates_of s) → IsOpen (HasLevelOn board) s index → IsOpen Covered s index
  opened index listed o l from upto c = o l from upto ((is.each index l listed (one_up l from) upto).1 c)

  shut : (index : ℕ) → index < length (candidates_of s) → IsOpen Covered s index → IsOpen (HasLevelOn board) s index
  shut index listed o l from upto c = o l from upto ((is.each index l listed (one_up l from) upto).0 c)

  some_candidate : 0 < length (candidates_of s)
  some_candidate = omega (arith, length_candidates s)

  module _ (own : Own) (kind : Kind) (side : Side) where
    listed_at : (index : ℕ) (v : ℤ) → slice_get (values_of kind s) index ≡ Some v → start_of kind s + index < length (candidates_of s)
    listed_at index v e = let w = kind_within kind s in let x = slice_get_within (values_of kind s) index v e in omega arith

    to_covered : (p : ℕ) (v : ℤ) → IsOpenOnSide (HasLevelOn board) s own kind side p v → IsOpenOnSide Covered s own kind side p v
    to_covered p v c = record { value_is = c.value_is; on_side = c.on_side; is_open = opened (start_of kind s + p) (listed_at p v c.value_is) c.is_open }

    to_board : (p : ℕ) (v : ℤ) → IsOpenOnSide Covered s own kind side p v → IsOpenOnSide (HasLevelOn board) s own kind side p v
    to_board p v c = record { value_is = c.value_is; on_side = c.on_side; is_open = shut (start_of kind s + p) (listed_at p v c.value_is) c.is_open }

    pub resolved : (resolution : Resolution) → IsResolution (HasLevelOn board) s own kind side resolution → IsResolution Covered s own kind side resolution
    resolved Keep h = opened 0 some_candidate h
    resolved (To value) h =
        ((λ o. h.0 (shut 0 some_candidate o)), (h.1.0, to_covered h.1.0 value h.1.1, λ p v c. h.1.2 p v (to_board p v c)))
    resolved Nothing h = ((λ o. h.0 (shut 0 some_candidate o)), λ p v c. h.1 p v (to_board p v c))
