-- The lines of a longer stream begin with those of a shorter one.
use Rattle.std.proofs.Common.{◌≡◌, ◌+◌, ◌==◌, ℕ, Bool, true, false, List, [], ◌∷◌, ◌++◌, length, take, refl, sym, ap, ◌∙◌, arith, nat_le, append_assoc, length-append, append-nil, inl, inr}
use Rattle.std.proofs.lemmas.List.{take-append-le}
use Rattle.std.proofs.lemmas.Bool.{cases_lt}
use Rattle.std.proofs.lemmas.Bool.Decides.{nat_tests}
use Rattle.daa_lines.specs.LinesOf.{Bytes, lines_of, line_feed, long_length, shown}
use Rattle.daa_lines.proofs.CutLemmas.{Cut, cut, cut_at, cut_more, cut-push, last_line, lines_of-cut}
use Rattle.daa_lines.proofs.ShownLemmas.{long_rest, short_rest, shown-append}

-- the lines begin with those
abbrev pub Begins : List Bytes → List Bytes → Type 0
Begins xs ys = (more : List Bytes) × (ys ≡ xs ++ more)

abbrev seen : Cut → List Bytes
seen p = shown (p.whole ++ last_line false p.rest)

ends : (done : List Bytes) (rest : Bytes) → Begins (seen (cut_at done rest)) (seen (cut_at (done ++ rest ∷ []) []))
ends done rest =
    let after = short_rest (done ++ rest ∷ []) [] (omega arith) ∙ shown-append done (rest ∷ []) in
    elim (cases_lt (length rest) long_length) [
      | inl short ↦ (take long_length rest ∷ [], rw (short_rest done rest short) after)
      | inr long ↦ ([], after ∙ sym (long_rest done rest long) ∙ sym (append-nil _))
    ]

grows : (done : List Bytes) (rest : Bytes) (b : ℕ) → Begins (seen (cut_at done rest)) (seen (cut_at done (rest ++ b ∷ [])))
grows done rest b =
    let size = length-append rest (b ∷ []) in
    elim (cases_lt (length rest) long_length) [
      | inl short ↦ elim (cases_lt (length rest + 1) long_length) [
        | inl still ↦ ([], short_rest done (rest ++ b ∷ []) (omega (arith, size)) ∙ sym (short_rest done rest short) ∙ sym (append-nil _))
        | inr full ↦ (take long_length (rest ++ b ∷ []) ∷ [], rw (short_rest done rest short) (long_rest done (rest ++ b ∷ []) (omega (arith, size))))
      ]
      | inr long ↦ (
        [],
        long_rest done (rest ++ b ∷ []) (omega (arith, size))
            ∙ ap (λ (y : Bytes). shown done ++ y ∷ []) (take-append-le long_length rest (b ∷ []) long)
            ∙ sym (long_rest done rest long) ∙ sym (append-nil _),
      )
    ]

one : (p : Cut) (b : ℕ) (is_end : Bool) → (b == line_feed) ≡ is_end → Begins (seen p) (seen (cut_more p b))
one p b true e = rw e (ends p.whole p.rest)
one p b false e = rw e (grows p.whole p.rest b)

cut_begins : (bytes more : Bytes) → Begins (seen (cut bytes)) (seen (cut (bytes ++ more)))
cut_begins bytes [] = ([], rw append-nil (sym (append-nil _)))
cut_begins bytes (b ∷ more) =
    let first : Begins (seen (cut bytes)) (seen (cut (bytes ++ b ∷ []))) = rw (cut-push bytes b) (one (cut bytes) b _ refl) in
    let then_more : Begins (seen (cut (bytes ++ b ∷ []))) (seen (cut (bytes ++ b ∷ more))) =
    rw (append_assoc bytes (b ∷ []) more) at (cut_begins (bytes ++ b ∷ []) more) in
    (first.0 ++ then_more.0, then_more.1 ∙ ap (λ (x : List Bytes). x ++ then_more.0) first.1 ∙ append_assoc _ first.0 then_more.0)

pub lines_begin : (bytes more : Bytes) → Begins (shown (lines_of bytes false)) (shown (lines_of (bytes ++ more) false))
lines_begin bytes more = rw (lines_of-cut bytes false, lines_of-cut (bytes ++ more) false) (cut_begins bytes more)

ending : (done : List Bytes) (rest : Bytes) → Begins (seen (cut_at done rest)) (shown (done ++ last_line true rest))
ending done [] = ([], sym (append-nil _))
ending done (b ∷ rest) =
    let after : shown (done ++ last_line true (b ∷ rest)) ≡ shown done ++ take long_length (b ∷ rest) ∷ [] = begun done b rest in
    elim (cases_lt (length (b ∷ rest)) long_length) [
      | inl short ↦ (take long_length (b ∷ rest) ∷ [], rw (short_rest done (b ∷ rest) short) after)
      | inr long ↦ ([], after ∙ sym (long_rest done (b ∷ rest) long) ∙ sym (append-nil _))
    ]
  where
    begun : (done : List Bytes) (b : ℕ) (rest : Bytes) → shown (done ++ last_line true (b ∷ rest)) ≡ shown done ++ take long_length (b ∷ rest) ∷ []
    begun done b rest =
        let some : nat_le 1 (length (b ∷ rest)) ≡ true = grind (arith, nat_tests) in
        rw some (shown-append done ((b ∷ rest) ∷ []))

-- the lines at the end of the input begin with those before
pub lines_end : (bytes : Bytes) → Begins (shown (lines_of bytes false)) (shown (lines_of bytes true))
lines_end bytes = rw (lines_of-cut bytes false, lines_of-cut bytes true) (ending (cut bytes).whole (cut bytes).rest)
