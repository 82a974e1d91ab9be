-- The lines before a rest, a long one by its first bytes.
use Rattle.std.proofs.Common.{◌≡◌, ◌≤◌, ◌<◌, true, false, List, [], ◌∷◌, ◌++◌, length, take, refl, ap, arith, append-nil, nat_le}
use Rattle.std.proofs.lemmas.List.{take_all}
use Rattle.std.proofs.lemmas.Bool.Decides.{nat_tests}
use Rattle.daa_lines.specs.LinesOf.{Bytes, long_length, shown}
use Rattle.daa_lines.proofs.CutLemmas.{last_line}

pub shown-append : (xs ys : List Bytes) → shown (xs ++ ys) ≡ shown xs ++ shown ys
shown-append [] ys = refl
shown-append (x ∷ xs) ys = ap (λ r. take long_length x ∷ r) (shown-append xs ys)

-- lines before a rest of fewer than long_length bytes, and before one of long_length or more
pub short_rest : (done : List Bytes) (rest : Bytes) → length rest < long_length → shown (done ++ last_line false rest) ≡ shown done
short_rest done rest h =
    let no : nat_le long_length (length rest) ≡ false = grind (arith, nat_tests) in
    rw (no, append-nil) refl

pub long_rest : (done : List Bytes) (rest : Bytes) → long_length ≤ length rest → shown (done ++ last_line false rest) ≡ shown done ++ take long_length rest ∷ []
long_rest done rest h =
    let yes : nat_le long_length (length rest) ≡ true = grind (arith, nat_tests) in
    rw yes (shown-append done (rest ∷ []))

pub whole_line : (line : Bytes) → length line ≤ long_length → take long_length line ≡ line
whole_line line h = take_all long_length line h
