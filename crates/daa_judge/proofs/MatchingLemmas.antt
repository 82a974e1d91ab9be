-- One read more of a comparison.
use Rattle.std.proofs.Common.{◌≡◌, ◌≢◌, ◌<◌, ◌≤◌, ◌+◌, ◌-◌, ◌++◌, ◌∙◌, ℕ, zero, suc, true, false, []}
use Rattle.std.proofs.Common.{◌∷◌, length, take, drop, refl, sym, ap, subst, arith, length-append, length-take, append-nil, append_assoc}
use Rattle.std.specs.Prelude.{slice_index}
use Rattle.std.specs.Io.KnownBytes.{Consumes}
use Rattle.std.proofs.KnownBytes.{Consumes-trans}
use Rattle.daa_ahead.specs.Bytes.{Bytes, StreamState}
use Rattle.daa_ahead.specs.Next.{ReadsMore, ReadsLast}
use Rattle.daa_ahead.specs.declared.ended.Ended.{Ended}
use Rattle.daa_ahead.specs.declared.ended.Ended.TheVariants.{End, Fault, Limit, Stopped}
use Rattle.daa_ahead.proofs.Handing.{last_after}
use Rattle.std.proofs.lemmas.Bool.{false≢true}
use Rattle.std.proofs.Math.Seq.{take-add}
use Rattle.daa_judge.specs.declared.found.Found.TheVariants as found
use Rattle.daa_judge.specs.Judged.{Differs}
use Rattle.daa_judge.specs.Found.{Finds, ShowsDifference}
use Rattle.daa_judge.specs.Matching.{line_feeds, IsMatched, Compares}
use Rattle.daa_judge.specs.Inside.Stepping.{found_at, longest_read, Took}
use Rattle.daa_judge.specs.declared.found.Found.{Found}
use Rattle.daa_judge.specs.declared.matching.Matching.{Matching}
use Rattle.daa_judge.proofs.JudgedLemmas.{Parted, parts, feeds-append}

take_drop : (n : ℕ) (xs : Bytes) → xs ≡ take n xs ++ drop n xs
take_drop zero [] = refl
take_drop (suc n) [] = refl
take_drop zero (x ∷ xs) = refl
take_drop (suc n) (x ∷ xs) = ap (λ (l : Bytes). x ∷ l) (take_drop n xs)

drop_at : (xs : Bytes) (n : ℕ) → n < length xs → drop n xs ≡ slice_index xs n ∷ drop (suc n) xs
drop_at [] n h = absurd (omega arith)
drop_at (x ∷ xs) zero h = refl
drop_at (x ∷ xs) (suc n) h = drop_at xs n (omega arith)

abbrev matching : ℕ → ℕ → Matching
matching left line = record { left = left; line = line }

module _ (most : ℕ) (first m now : StreamState) (before : Bytes) (old : Matching) (h : IsMatched most first before old m) where
  -- so many bytes more were read, and they match
  pub more : (count : ℕ) (buf piece : Bytes) → take count buf ≡ piece → length piece ≡ count → ReadsMore count old.left buf m now
      → IsMatched most first (before ++ piece) (matching (old.left - count) (old.line + line_feeds piece)) now
  more count buf piece e n r = record {
    handed = Consumes-trans first.bytes m.bytes now.bytes before piece h.handed (subst (Consumes m.bytes now.bytes) e r.handed);
    size = omega (arith, h.size, r.bound, length-append before piece);
    line = omega (arith, h.line, feeds-append before piece);
    calm = r.calm ∙ h.calm;
  }

  -- more bytes were read, and after some front of them they part from the text
  pub parted : (piece text rest : Bytes) (n : ℕ) → length piece ≤ longest_read → ReadsMore (length piece) old.left piece m now → take (length piece) piece ≡ piece → n < length piece → n < length text
      → take n piece ≡ take n text → slice_index piece n ≢ slice_index text n
      → ShowsDifference (before ++ (text ++ rest)) most (old.line + line_feeds (take n piece)) first now
  parted piece text rest n few r all lt other same apart =
      let front = before ++ take n piece in
      record {
        front = before;
        last = piece;
        handed = record {
          handed = Consumes-trans first.bytes m.bytes now.bytes before piece h.handed (subst (Consumes m.bytes now.bytes) all r.handed);
          bound = omega (arith, h.size, r.bound, length-append before piece);
        };
        ended = false;
        over = λ e. absurd (false≢true e);
        differs = λ further e. subst (λ (k : ℕ). Differs (before ++ (text ++ rest)) k ((before ++ piece) ++ further))
            (omega (arith, h.line, feeds-append before (take n piece)))
            (parts front (drop n piece ++ further) (drop n text ++ rest) (before ++ (text ++ rest)) ((before ++ piece) ++ further)
            (by_front before piece further n)
            (sym (append_assoc before text rest) ∙ by_front before text rest n ∙ ap (λ (l : Bytes). (before ++ l) ++ (drop n text ++ rest)) (sym same))
            (apart_there further));
        begins = (text ++ rest, refl);
        one_read = few;
        calm = r.calm ∙ h.calm;
      }
    where
      by_front : (a xs b : Bytes) (k : ℕ) → (a ++ xs) ++ b ≡ (a ++ take k xs) ++ (drop k xs ++ b)
      by_front a xs b k =
          ap (λ (l : Bytes). (a ++ l) ++ b) (take_drop k xs) ∙ ap (λ (l : Bytes). l ++ b) (sym (append_assoc a (take k xs) (drop k xs)))
          ∙ append_assoc (a ++ take k xs) (drop k xs) b

      apart_there : (further : Bytes) → Parted (drop n piece ++ further) (drop n text ++ rest)
      apart_there further =
          subst (λ (l : Bytes). Parted (l ++ further) (drop n text ++ rest)) (sym (drop_at piece n lt))
          (subst (λ (l : Bytes). Parted (slice_index piece n ∷ (drop (suc n) piece ++ further)) (l ++ rest)) (sym (drop_at text n other)) apart)

  -- reading is over, and more was wanted
  pub over : (ended : Ended) (text rest : Bytes) → 0 < length text → ReadsLast ended old.left m now [] → Finds (before ++ (text ++ rest)) most (found_at ended old.line) first now
  over End [] rest some r = absurd (omega arith)
  over End (y ∷ text) rest some r =
      let last = last_after End most old.left first m now before h.size h.handed h.calm r in
      record {
        front = before;
        last = [];
        handed = record { handed = subst (Consumes first.bytes now.bytes) (sym (append-nil before)) last.handed; bound = omega (arith, h.size, length-append before []) };
        ended = true;
        over = λ e. last.over;
        differs = λ further e. subst (λ (k : ℕ). Differs (before ++ ((y ∷ text) ++ rest)) k ((before ++ []) ++ further)) (sym h.line)
            (parts before further ((y ∷ text) ++ rest) (before ++ ((y ∷ text) ++ rest)) ((before ++ []) ++ further) (ap (λ (l : Bytes). l ++ further) (append-nil before)) refl
            (subst (λ (l : Bytes). Parted l ((y ∷ text) ++ rest)) (sym (e refl)) tt));
        begins = ((y ∷ text) ++ rest, refl);
        one_read = omega arith;
        calm = last.calm;
      }
  over Fault text rest some r =
      let last = last_after Fault most old.left first m now before h.size h.handed h.calm r in
      (before, last, omega (arith, h.size), (text ++ rest, refl))
  over Limit text rest some r =
      let last = last_after Limit most old.left first m now before h.size h.handed h.calm r in
      (before, last, (text ++ rest, refl))
  over Stopped text rest some r = absurd r

  -- the report is over, and a byte more was read
  pub beyond : (count : ℕ) (buf : Bytes) → count ≤ length buf → length buf ≤ longest_read → ReadsMore count old.left buf m now → ShowsDifference before most old.line first now
  beyond count buf in' few r = record {
    front = before;
    last = take count buf;
    handed = record {
      handed = Consumes-trans first.bytes m.bytes now.bytes before (take count buf) h.handed r.handed;
      bound = omega (arith, h.size, r.bound, length-append before (take count buf), length-take count buf);
    };
    ended = false;
    over = λ e. absurd (false≢true e);
    differs = λ further e. subst (λ (k : ℕ). Differs before k ((before ++ take count buf) ++ further)) (sym h.line)
        (parts before (take count buf ++ further) [] before ((before ++ take count buf) ++ further) (append_assoc before (take count buf) further) (sym (append-nil before))
        (some_more (take count buf) further (omega (arith, r.some, length-take count buf))));
    begins = ([], sym (append-nil before));
    one_read = omega (arith, length-take count buf, in', few);
    calm = r.calm ∙ h.calm;
  }
    where
      some_more : (xs further : Bytes) → 0 < length xs → Parted (xs ++ further) []
      some_more [] further lt = absurd (omega arith)
      some_more (x ∷ xs) further lt = tt

  -- the report is over, and so is reading
  pub same : ReadsLast End old.left m now [] → Finds before most found.Alike first now
  same r =
      let last = last_after End most old.left first m now before h.size h.handed h.calm r in
      (last, omega (arith, h.size))

  pub fails : ReadsLast Fault old.left m now [] → Finds before most found.Fault first now
  fails r =
      let last = last_after Fault most old.left first m now before h.size h.handed h.calm r in
      (before, last, omega (arith, h.size), ([], sym (append-nil before)))

  pub passes : ReadsLast Limit old.left m now [] → Finds before most found.Limit first now
  passes r =
      let last = last_after Limit most old.left first m now before h.size h.handed h.calm r in
      (before, last, ([], sym (append-nil before)))

-- ---- by the functions

put_back : (before text rest : Bytes) (done : ℕ) → (before ++ take done text) ++ (drop done text ++ rest) ≡ before ++ (text ++ rest)
put_back before text rest done =
    append_assoc before (take done text) (drop done text ++ rest) ∙ ap (λ (l : Bytes). before ++ l) (sym (append_assoc (take done text) (drop done text) rest))
    ∙ ap (λ (l : Bytes). before ++ (l ++ rest)) (sym (take_drop done text))

pub take_all : (xs : Bytes) → take (length xs) xs ≡ xs
take_all [] = refl
take_all (x ∷ xs) = ap (λ (l : Bytes). x ∷ l) (take_all xs)

take_past : (n : ℕ) (xs : Bytes) → length xs ≤ n → take n xs ≡ xs
take_past zero [] h = refl
take_past (suc n) [] h = refl
take_past zero (x ∷ xs) h = absurd (omega arith)
take_past (suc n) (x ∷ xs) h = ap (λ (l : Bytes). x ∷ l) (take_past n xs (omega arith))

put_tail : (before text rest tail : Bytes) (done : ℕ) → tail ≡ drop done text → (before ++ take done text) ++ (tail ++ rest) ≡ before ++ (text ++ rest)
put_tail before text rest tail done e = ap (λ (l : Bytes). (before ++ take done text) ++ (l ++ rest)) e ∙ put_back before text rest done

abbrev IsStop : Found → Type 0
IsStop found.Alike = ⊥
IsStop (found.Differs number) = Unit {0}
IsStop found.Fault = Unit {0}
IsStop found.Limit = Unit {0}

-- what stops is no match
pub no_match : (f : Found) → IsStop f → f ≢ found.Alike
no_match f h e = subst IsStop e h

pub stops_at : (ended : Ended) (line : ℕ) (f : Found) → f ≡ found_at ended line → f ≢ found.Alike
stops_at End line f e = no_match f (subst IsStop (sym e) tt)
stops_at Fault line f e = no_match f (subst IsStop (sym e) tt)
stops_at Limit line f e = no_match f (subst IsStop (sym e) tt)
stops_at Stopped line f e = no_match f (subst IsStop (sym e) tt)

-- all bytes of a piece matched the front of a text
pub all_matched : (piece text : Bytes) (n feeds : ℕ) (old : Matching) (s t : StreamState) → n ≤ length piece → n ≤ length text → length piece ≤ n → 0 < length piece
    → take n piece ≡ take n text → feeds ≡ line_feeds (take n piece) → ReadsMore (length piece) old.left piece s t
    → Took n text old (matching (old.left - length piece) (old.line + feeds)) s t
all_matched piece text n feeds old s t in' other not some same counted r =
    let e : n ≡ length piece = omega arith in
    let all : take (length piece) piece ≡ take n text = ap (λ (k : ℕ). take k piece) (sym e) ∙ same in
    record {
      some = omega arith;
      within = other;
      matched = λ most first before h. subst (λ (k : ℕ). IsMatched most first (before ++ take n text) (matching (old.left - length piece) (old.line + k)) t)
          (ap line_feeds (sym same) ∙ sym counted)
          (more most first s t before old h (length piece) piece (take n text) all (ap length (sym all) ∙ ap length (take_all piece)) r);
    }

pub parted_there : (most : ℕ) (first m now : StreamState) (before : Bytes) (old : Matching) (h : IsMatched most first before old m) (piece text rest : Bytes) (n feeds : ℕ)
    → length piece ≤ longest_read → ReadsMore (length piece) old.left piece m now → n < length piece → length piece ≤ length text → take n piece ≡ take n text
    → (n < length piece → n < length text → slice_index piece n ≢ slice_index text n) → feeds ≡ line_feeds (take n piece)
    → ShowsDifference (before ++ (text ++ rest)) most (old.line + feeds) first now
parted_there most first m now before old h piece text rest n feeds few r lt in' same apart counted =
    subst (λ (k : ℕ). ShowsDifference (before ++ (text ++ rest)) most (old.line + k) first now) (sym counted)
    (parted most first m now before old h piece text rest n few r (take_all piece) lt (omega arith) same (apart lt (omega arith)))

pub over_there : (most : ℕ) (first m now : StreamState) (before : Bytes) (old : Matching) (h : IsMatched most first before old m) (ended : Ended) (text rest : Bytes) (f : Found)
    → f ≡ found_at ended old.line → 0 < length text → ReadsLast ended old.left m now [] → Finds (before ++ (text ++ rest)) most f first now
over_there most first m now before old h ended text rest f e some r =
    subst (λ (x : Found). Finds (before ++ (text ++ rest)) most x first now) (sym e) (over most first m now before old h ended text rest some r)

-- a step more
pub next_matched : (most : ℕ) (first now : StreamState) (before text tail : Bytes) (done count : ℕ) (m : Matching) → tail ≡ drop done text
    → IsMatched most first ((before ++ take done text) ++ take count tail) m now → IsMatched most first (before ++ take (done + count) text) m now
next_matched most first now before text tail done count m e h =
    subst (λ (l : Bytes). IsMatched most first l m now)
    (ap (λ (l : Bytes). (before ++ take done text) ++ take count l) e
    ∙ append_assoc before (take done text) (take count (drop done text))
    ∙ ap (λ (l : Bytes). before ++ l) (sym (take-add done count text)))
    h

pub whole_matched : (most : ℕ) (first now : StreamState) (before text : Bytes) (done : ℕ) (m : Matching) → length text ≤ done
    → IsMatched most first (before ++ take done text) m now → IsMatched most first (before ++ text) m now
whole_matched most first now before text done m past h = subst (λ (l : Bytes). IsMatched most first (before ++ l) m now) (take_past done text past) h

pub compares_to : (most : ℕ) (first now : StreamState) (before text : Bytes) (done : ℕ) (m : Matching) (f : Found) → f ≢ found.Alike → (tail : Bytes) → tail ≡ drop done text
    → ((rest : Bytes) → Finds ((before ++ take done text) ++ (tail ++ rest)) most f first now) → Compares f most first before text m now
compares_to most first now before text done m found.Alike other tail e h = absurd (other refl)
compares_to most first now before text done m (found.Differs number) other tail e h = λ rest. subst
    (λ (l : Bytes). Finds l most (found.Differs number) first now) (put_tail before text rest tail done e) (h rest)
compares_to most first now before text done m found.Fault other tail e h = λ rest. subst (λ (l : Bytes). Finds l most found.Fault first now) (put_tail before text rest tail done e) (h rest)
compares_to most first now before text done m found.Limit other tail e h = λ rest. subst (λ (l : Bytes). Finds l most found.Limit first now) (put_tail before text rest tail done e) (h rest)
