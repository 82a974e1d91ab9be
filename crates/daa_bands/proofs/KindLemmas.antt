-- Shown levels are the only ones, and a kind has one list of bands.
use Rattle.std.proofs.Common.{◌≡◌, ◌<◌, ◌≤◌, ◌+◌, ◌⊎◌, ◌∙◌, ℕ, List, length, sym, subst, arith, inl, inr}
use Rattle.std.specs.Prelude.{slice_index}
use Rattle.std.specs.List.{zip}
use Rattle.std.proofs.lemmas.List.{ext_get_or}
use Rattle.std.proofs.lemmas.Bool.{cases_lt}
use Rattle.daa_config.specs.Settings.{Settings, IsAccepted}
use Rattle.daa_config.specs.Candidates.{values_of, start_of, candidates_of}
use Rattle.daa_config.proofs.CandidateLemmas.{kind_within}
use Rattle.daa_config.proofs.GreatestLemmas.{greatest_once}
use Rattle.daa_bands.specs.Board.{HasLevelOn, IsBoardOf, mask_levels}
use Rattle.daa_fixed.specs.Mask.{IsGreatestLevel}
use Rattle.daa_config.specs.declared.kind.Kind.{Kind}
use Rattle.daa_bands.specs.declared.band.Band.{Band}
use Rattle.daa_bands.specs.Band.{AreBands}
use Rattle.daa_bands.specs.KindBands.{AreKindBands}
use Rattle.daa_bands.proofs.BandLemmas.{only}

pub kind_bands_only : (Covered : ℕ → ℕ → Type 0) (top : ℕ) (s : Settings) (kind : Kind) (a b : List Band)
    → AreKindBands Covered top s kind a → AreKindBands Covered top s kind b → a ≡ b
kind_bands_only Covered top s kind a b g h =
    let m : length g.levels ≡ length h.levels = g.shown.each ∙ sym h.shown.each in
    let e : g.levels ≡ h.levels = ext_get_or 0 g.levels h.levels m
    (λ i lt. greatest_once (Covered (start_of kind s + i)) top (slice_index g.levels i) (slice_index h.levels i) (g.shown.greatest i lt)
    (h.shown.greatest i (let n = m in omega arith))) in
    let k = subst (λ (ls : List ℕ). AreBands (zip (values_of kind s) ls) a) e g.are in
    only (zip (values_of kind s) h.levels) a k ∙ sym (only (zip (values_of kind s) h.levels) b h.are)

-- ---- a board that stands for what is covered

module _ (Covered : ℕ → ℕ → Type 0) (s : Settings) (board : List ℕ) (ok : IsAccepted s) (is : IsBoardOf Covered s board) where
  pub greatest_covered : (index level : ℕ) → index < length (candidates_of s) → IsGreatestLevel (HasLevelOn board index) mask_levels level
      → IsGreatestLevel (Covered index) (length s.levels) level
  greatest_covered index level in' g =
      let within = go (cases_lt (length s.levels) level) in
      let few = ok.few_levels in
      record {
        within = within;
        holds = λ h. (is.each index level in' (omega arith) within).0 (g.holds h);
        none_above = λ l lt le c. g.none_above l lt (omega arith) ((is.each index l in' (omega arith) le).1 c);
      }
    where
      go : (length s.levels < level) ⊎ (level ≤ length s.levels) → level ≤ length s.levels
      go (inl lt) = absurd (is.no_level_above index level lt (g.holds (omega arith)))
      go (inr le) = le

  pub bands_covered : (kind : Kind) (bands : List Band) → AreKindBands (HasLevelOn board) mask_levels s kind bands
      → AreKindBands Covered (length s.levels) s kind bands
  bands_covered kind bands b =
      let w = kind_within kind s in record {
        levels = b.levels;
        shown = record {
          each = b.shown.each;
          greatest = λ i lt. greatest_covered (start_of kind s + i) (slice_index b.levels i) (let e = b.shown.each in omega arith) (b.shown.greatest i lt);
        };
        are = b.are;
      }
