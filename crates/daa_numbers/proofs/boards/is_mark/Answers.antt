use Rattle.std.proofs.Common.{◌≡◌, ℤ, List, subst}
use Rattle.std.specs.Bool.{Decides}
use Rattle.std.proofs.lemmas.Bool.Decides.{Decides-int_eq}
use Rattle.std.proofs.lemmas.Slice.Eq.{slice_eq-Decides}
use Rattle.daa_numbers.proofs.boards.is_mark.Goals as goal

pub returns : goal.returns
returns c =
    subst (λ (m : List ℤ). Decides c.eq.result (c.args.board.now.mark ≡ m)) c.mark.ensures
    (slice_eq-Decides Decides-int_eq _ _ _ c.eq.ensures)
