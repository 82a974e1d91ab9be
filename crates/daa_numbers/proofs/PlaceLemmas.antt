-- Places that are filled in one after the other.
use Rattle.std.proofs.Common.{◌≡◌, ◌+◌, ℕ, List, drop, slice_set, ap, arith}
use Rattle.std.proofs.lemmas.List.{drop-drop, drop-set-lt}

-- the places past the next one that is filled in are as they were
pub set_past : {A : Type 0} (places before : List A) (index : ℕ) (one : A) → drop index places ≡ drop index before
    → drop (index + 1) (slice_set places index one) ≡ drop (index + 1) before
set_past places before index one same =
    let left : drop (index + 1) (slice_set places index one) ≡ drop (index + 1) places = drop-set-lt (index + 1) places index one (omega arith) in
    let now : drop 1 (drop index places) ≡ drop (index + 1) places = drop-drop 1 index places in
    let earlier : drop 1 (drop index before) ≡ drop (index + 1) before = drop-drop 1 index before in
    let on : drop 1 (drop index places) ≡ drop 1 (drop index before) = ap (drop 1) same in
    cc (left, now, earlier, on)
