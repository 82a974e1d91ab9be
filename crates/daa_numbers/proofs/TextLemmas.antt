-- The bytes before the first 0, read one after the other.
use Rattle.std.proofs.Common.{◌≡◌, ◌≢◌, ◌<◌, ◌≤◌, ◌+◌, ◌++◌, ◌∷◌, [], ◌∙◌, ℕ, zero, suc, List, length, take, drop, slice_index_or, sym, ap, refl, append_assoc}
use Rattle.std.proofs.lemmas.List.{take_more, drop_more, drop_all, append-nil}
use Rattle.daa_numbers.specs.States.{text_of}

-- a byte that is not 0 is of the text
pub goes_on : (n : ℕ) (rest : List ℕ) → n ≢ 0 → text_of (n ∷ rest) ≡ n ∷ text_of rest
unfolding text_of
goes_on zero rest other = absurd (other refl)
goes_on (suc n) rest other = refl

-- a byte 0 ends it
ends : (n : ℕ) (rest : List ℕ) → n ≡ 0 → text_of (n ∷ rest) ≡ []
unfolding text_of
ends zero rest is = refl
ends (suc n) rest is = absurd (cc is)

pub text_more : (bytes : List ℕ) (end d : ℕ) → end < length bytes → slice_index_or bytes end d ≢ 0
    → take end bytes ++ text_of (drop end bytes) ≡ text_of bytes → take (end + 1) bytes ++ text_of (drop (end + 1) bytes) ≡ text_of bytes
text_more bytes end d within other so_far =
    let n : ℕ = slice_index_or bytes end d in
    let rest : List ℕ = drop (end + 1) bytes in
    let more : take (end + 1) bytes ≡ take end bytes ++ n ∷ [] = take_more bytes end d within in
    let left : text_of (drop end bytes) ≡ n ∷ text_of rest = ap text_of (drop_more bytes end d within) ∙ goes_on n rest other in
    ap (λ (front : List ℕ). front ++ text_of rest) more
    ∙ append_assoc (take end bytes) (n ∷ []) (text_of rest)
    ∙ ap (λ (back : List ℕ). take end bytes ++ back) (sym left)
    ∙ so_far

pub text_ends : (bytes : List ℕ) (end d : ℕ) → end < length bytes → slice_index_or bytes end d ≡ 0
    → take end bytes ++ text_of (drop end bytes) ≡ text_of bytes → take end bytes ≡ text_of bytes
text_ends bytes end d within is so_far =
    let left : text_of (drop end bytes) ≡ [] = ap text_of (drop_more bytes end d within) ∙ ends _ _ is in
    sym (append-nil (take end bytes)) ∙ ap (λ (back : List ℕ). take end bytes ++ back) (sym left) ∙ so_far

pub text_whole : (bytes : List ℕ) (end : ℕ) → length bytes ≤ end
    → take end bytes ++ text_of (drop end bytes) ≡ text_of bytes → take end bytes ≡ text_of bytes
unfolding text_of
text_whole bytes end past so_far =
    let left : text_of (drop end bytes) ≡ [] = ap text_of (drop_all end bytes past) in
    sym (append-nil (take end bytes)) ∙ ap (λ (back : List ℕ). take end bytes ++ back) (sym left) ∙ so_far
