-- Fronts that two runs of bytes have in common, and lines.
use Rattle.std.proofs.Common.{◌≡◌, ◌≢◌, ◌≤◌, ◌+◌, ◌++◌, ◌==◌, ◌∙◌, ℕ, true, false, [], ◌∷◌, length, drop, refl, sym, ap, arith, cond, eq-eqb, append-nil}
use Rattle.std.specs.Prelude.{slice_index}
use Rattle.std.proofs.lemmas.Bool.Decides.{nat_tests}
use Rattle.std.proofs.lemmas.List.Sums.{sum_by-append, count_by-le-length}
use Rattle.daa_ahead.specs.Bytes.{Bytes}
use Rattle.daa_judge.specs.Judged.{common_front, Differs}
use Rattle.daa_judge.specs.Matching.{line_feeds}

-- ---- line ends

pub feeds-append : (xs ys : Bytes) → line_feeds (xs ++ ys) ≡ line_feeds xs + line_feeds ys
feeds-append xs ys = sum_by-append (λ (byte : ℕ). cond (byte == 10) 1 0) xs ys

-- no more lines end in bytes than there are bytes
pub feeds-few : (xs : Bytes) → line_feeds xs ≤ length xs
feeds-few xs = count_by-le-length (λ (byte : ℕ). byte == 10) xs

-- ---- where two runs of bytes part

-- neither goes on as the other does: one is over, or their next bytes differ
abbrev pub Parted : Bytes → Bytes → Type 0
Parted [] [] = ⊥
Parted [] (y ∷ ys) = Unit {0}
Parted (x ∷ xs) [] = Unit {0}
Parted (x ∷ xs) (y ∷ ys) = x ≢ y

same_byte : (x : ℕ) → (x == x) ≡ true
same_byte x = eq-eqb x x refl

other_byte : (x y : ℕ) → x ≢ y → (x == y) ≡ false
other_byte x y h = grind (arith, nat_tests)

parted-front : (xs ys : Bytes) → Parted xs ys → common_front xs ys ≡ []
parted-front [] [] h = absurd h
parted-front [] (y ∷ ys) h = refl
parted-front (x ∷ xs) [] h = refl
parted-front (x ∷ xs) (y ∷ ys) h = rw (other_byte x y h) refl

parted-other : (xs ys : Bytes) → Parted xs ys → xs ≢ ys
parted-other [] [] h e = h
parted-other [] (y ∷ ys) h e = let l = ap length e in absurd (omega arith)
parted-other (x ∷ xs) [] h e = let l = ap length e in absurd (omega arith)
parted-other (x ∷ xs) (y ∷ ys) h e = h (ap (λ (l : Bytes). slice_index l 0) e)

common-more : (front xs ys : Bytes) → common_front (front ++ xs) (front ++ ys) ≡ front ++ common_front xs ys
common-more [] xs ys = refl
common-more (z ∷ front) xs ys = rw (same_byte z) (ap (λ (l : Bytes). z ∷ l) (common-more front xs ys))

same_tail : (front xs ys : Bytes) → front ++ xs ≡ front ++ ys → xs ≡ ys
same_tail [] xs ys e = e
same_tail (z ∷ front) xs ys e = same_tail front xs ys (ap (drop 1) e)

pub parts : (front xs ys report bytes : Bytes) → bytes ≡ front ++ xs → report ≡ front ++ ys → Parted xs ys → Differs report (1 + line_feeds front) bytes
parts front xs ys report bytes b r h =
    let c : common_front bytes report ≡ front =
    ap (λ (l : Bytes). common_front l report) b ∙ ap (common_front (front ++ xs)) r ∙ common-more front xs ys ∙ ap (λ (l : Bytes). front ++ l) (parted-front xs ys h)
    ∙ append-nil front in
    record {
      other = λ e. parted-other xs ys h (same_tail front xs ys (sym b ∙ e ∙ r));
      number_is = ap (λ (l : Bytes). 1 + line_feeds l) (sym c);
    }
