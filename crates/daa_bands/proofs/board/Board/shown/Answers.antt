use Rattle.std.proofs.Common.{◌≡◌, ◌∙◌, ◌+◌, ◌-◌, ◌*◌, ℕ, sym, ap, subst, arith}
use Rattle.std.specs.Prelude.{slice_index}
use lib.Count.{count_leading_zeros}
use Rattle.daa_fixed.specs.Mask.{HasLevel, IsGreatestLevel}
use Rattle.daa_bands.specs.Board.{mask_levels}
use Rattle.daa_bands.specs.Walk.{shown_of}
use Rattle.daa_bands.proofs.MaskLemmas.{greatest_shown, shown_by_more}
use Rattle.daa_bands.proofs.board.Board.shown.Goals as goal

pub returns : goal.returns
returns c =
    let m : ℕ = slice_index c.args.self.now c.args.index in
    let kept : 31 - count_leading_zeros 32 (2 * c.from.result + 1) ≡ 31 - count_leading_zeros 32 (2 * c.mask.result + 1) =
    ap (λ (x : ℕ). 31 - count_leading_zeros 32 (2 * x + 1)) c.from.ensures in
    subst (λ (l : ℕ). IsGreatestLevel (HasLevel m) mask_levels l) (sym (kept ∙ shown_by_more c.mask.result (omega arith) ∙ ap shown_of c.mask.ensures)) (greatest_shown m)
