-- Levels that are filled in one after the other.
use Rattle.std.proofs.Common.{◌<◌, ◌+◌, ℕ, List, length, slice_set, below_more, subst, sym, arith}
use Rattle.std.specs.Prelude.{slice_index}
use Rattle.std.proofs.lemmas.List.{get_or-set_same, get_or-set_other}
use Rattle.daa_bands.specs.Board.{HasLevelOn, mask_levels}
use Rattle.daa_fixed.specs.Mask.{IsGreatestLevel}
use Rattle.daa_numbers.specs.Filled.{AreLevelsOn}

pub one_more : (board levels : List ℕ) (index level : ℕ) → index < length levels → AreLevelsOn board mask_levels index levels
    → IsGreatestLevel (HasLevelOn board index) mask_levels level → AreLevelsOn board mask_levels (index + 1) (slice_set levels index level)
one_more board levels index level within before is =
    below_more (λ (i : ℕ). IsGreatestLevel (HasLevelOn board i) mask_levels (slice_index (slice_set levels index level) i)) index
    (λ i less. subst (IsGreatestLevel (HasLevelOn board i) mask_levels) (sym (get_or-set_other levels index i level 0 (omega (arith, less)))) (before i less))
    (subst (IsGreatestLevel (HasLevelOn board index) mask_levels) (sym (get_or-set_same levels index level 0 within)) is)
