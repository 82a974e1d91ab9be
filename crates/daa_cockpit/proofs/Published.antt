-- What was published once all lines were read.
use Rattle.std.proofs.Common.{◌≡◌, ℕ, List, [], ◌∷◌, ◌++◌, fold, ap, ◌∙◌, Result, Ok, String, Global, string_bytes}
use Rattle.std.proofs.lemmas.List.Sums.{fold-append}
use Rattle.daa_state.specs.MomentStep.{MomentsState, start}
use Rattle.daa_state.specs.declared.word.Picture.{Picture}
use Rattle.daa_cockpit.specs.Inside.Reads.{read, read_more, read_item}

-- one line more was read
pub more_published : {E : Type 0} (before some pictures : List Picture) (lines : List (Result (String Global) E)) (item : Result (String Global) E) (line : String Global) (bytes : List ℕ)
    (state next : MomentsState) → fold (read_item {E = E}) (Ok (read start before)) lines ≡ Ok (read state some)
    → item ≡ Ok line → bytes ≡ string_bytes line → read_more (Ok (read state some)) bytes ≡ Ok (read next pictures)
    → fold (read_item {E = E}) (Ok (read start before)) (lines ++ item ∷ []) ≡ Ok (read next pictures)
more_published {E = E} before some pictures lines item line bytes state next so_far is same step =
    fold-append (read_item {E = E}) (Ok (read start before)) lines (item ∷ []) ∙ ap (λ done. read_item {E = E} done item) so_far
    ∙ ap (read_item {E = E} (Ok (read state some))) is ∙ rw (← same) step
