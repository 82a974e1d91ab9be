-- A kind has a list of bands, wherever each candidate has its greatest level.
use Rattle.std.proofs.Common.{◌≡◌, ◌<◌, ◌+◌, ℕ, zero, suc, List, [], ◌∷◌, length, ap, subst, refl, arith}
use Rattle.std.specs.Prelude.{slice_index}
use Rattle.std.specs.List.{zip}
use Rattle.daa_config.specs.Candidates.{values_of, start_of}
use Rattle.daa_fixed.specs.Mask.{IsGreatestLevel}
use Rattle.daa_config.specs.Settings.{Settings}
use Rattle.daa_config.specs.declared.kind.Kind.{Kind}
use Rattle.daa_fixed.specs.One.{HasOne}
use Rattle.daa_bands.specs.KindBands.{AreKindBands}
use Rattle.daa_bands.specs.Walk.{bands_of}
use Rattle.daa_bands.proofs.BandLemmas.{found}
use Rattle.daa_bands.proofs.KindLemmas.{kind_bands_only}

-- ---- a function at the numbers from one on

from : (ℕ → ℕ) → (begin count : ℕ) → List ℕ
from f begin zero = []
from f begin (suc count) = f begin ∷ from f (suc begin) count

from-length : (f : ℕ → ℕ) (begin count : ℕ) → length (from f begin count) ≡ count
unfolding from
from-length f begin zero = refl
from-length f begin (suc count) = ap suc (from-length f (suc begin) count)

from-at : (f : ℕ → ℕ) (begin count i : ℕ) (P : ℕ → ℕ → Type 0) → ((n : ℕ) → P n (f n)) → i < length (from f begin count) → P (begin + i) (slice_index (from f begin count) i)
unfolding from
from-at f begin zero i P h lt = absurd (omega arith)
from-at f begin (suc count) zero P h lt = let e : begin ≡ begin + 0 = omega arith in subst (λ (n : ℕ). P n (f begin)) e (h begin)
from-at f begin (suc count) (suc i) P h lt =
    let e : suc begin + i ≡ begin + suc i = omega arith in
    subst (λ (n : ℕ). P n (slice_index (from f (suc begin) count) i)) e (from-at f (suc begin) count i P h (omega arith))

module _ (Covered : ℕ → ℕ → Type 0) (top : ℕ) (s : Settings) (kind : Kind) (shown : (index : ℕ) → (level : ℕ) × IsGreatestLevel (Covered index) top level) where
  abbrev levels : List ℕ
  levels = from (λ index. (shown index).0) (start_of kind s) (length (values_of kind s))

  pub one_kind_list : HasOne (AreKindBands Covered top s kind)
  one_kind_list = record {
    one = bands_of (zip (values_of kind s) levels);
    is = are;
    only = λ others h. kind_bands_only Covered top s kind others (bands_of (zip (values_of kind s) levels)) h are;
  }
    where
      are : AreKindBands Covered top s kind (bands_of (zip (values_of kind s) levels))
      are = record {
        levels = levels;
        shown = record {
          each = from-length (λ index. (shown index).0) (start_of kind s) (length (values_of kind s));
          greatest = λ i lt. from-at (λ index. (shown index).0) (start_of kind s) (length (values_of kind s)) i
              (λ index level. IsGreatestLevel (Covered index) top level) (λ index. (shown index).1) lt;
        };
        are = found (zip (values_of kind s) levels);
      }
