-- Lemmas on bytes that are handed out or taken piece by piece.
use Rattle.std.proofs.Common.{◌≡◌, ℕ, ◌+◌, List, ◌++◌, take, drop, sym, ◌∙◌, ap, take-append-drop}
use Rattle.std.proofs.lemmas.List.{drop-drop}

-- the rest of the bytes is the next n of them, and then what follows
pub handed_out : (bytes : List ℕ) (at n : ℕ) → drop at bytes ≡ take n (drop at bytes) ++ drop (at + n) bytes
handed_out bytes at n =
    sym (take-append-drop n (drop at bytes)) ∙ ap (λ rest. take n (drop at bytes) ++ rest) (drop-drop n at bytes)
