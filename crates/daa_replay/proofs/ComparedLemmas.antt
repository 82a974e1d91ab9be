-- What a comparison tells of all bytes of a source.
use Rattle.std.proofs.Common.{◌≡◌, ◌≢◌, ◌∙◌, ◌<◌, ◌≤◌, ℕ, zero, suc, Bool, true, false, List, [], ◌∷◌, ◌++◌, Option, None, Some, refl, sym, ap, arith, append_assoc, append-nil, length, length-append, take}
use Rattle.std.specs.Io.KnownBytes.{Consumes}
use Rattle.daa_ahead.specs.Bytes.{StreamState, IsSpent}
use Rattle.daa_judge.specs.Found.{Finds, ShowsDifference}
use Rattle.daa_judge.specs.Judged.{Begins}
use Rattle.daa_judge.specs.declared.found.Found.TheVariants as found
use Rattle.daa_lines.specs.LinesOf.{Bytes}

false_not_true : false ≡ true → ⊥
false_not_true k = cc

-- a source that tells its bytes handed out these and had others left, none where it is spent
record HasLeft (a b : Option (List ℕ)) (all bytes : Bytes) : Type 0 where
  more : Bytes
  all_are : all ≡ bytes ++ more
  none : IsSpent a b → more ≡ []

handed_all : (a b : Option (List ℕ)) (all bytes : Bytes) → a ≡ Some all → Consumes a b bytes → HasLeft a b all bytes
handed_all None b all bytes e h = cc
handed_all (Some xs) None all bytes e h = absurd h
handed_all (Some xs) (Some ys) all bytes e h =
    let same : xs ≡ all = cc in
    record { more = ys; all_are = sym same ∙ h; none = λ s. (let n : Some ys ≡ Some [] = s in cc) }

take_over : (xs ys : Bytes) (n : ℕ) → length xs ≤ n → (tail : Bytes) × (take n (xs ++ ys) ≡ xs ++ tail)
take_over [] ys n h = (take n ys, refl)
take_over (x ∷ xs) ys zero h = absurd (omega arith)
take_over (x ∷ xs) ys (suc n) h = let t = take_over xs ys n (omega arith) in (t.0, ap (λ (l : Bytes). x ∷ l) t.1)

take_front : (xs ys : Bytes) (n : ℕ) → length xs ≡ n → take n (xs ++ ys) ≡ xs
take_front [] ys zero e = take_none ys
  where
    take_none : (zs : Bytes) → take 0 zs ≡ []
    take_none [] = refl
    take_none (z ∷ zs) = refl
take_front [] ys (suc n) e = absurd (omega (arith, e))
take_front (x ∷ xs) ys zero e = absurd (omega (arith, e))
take_front (x ∷ xs) ys (suc n) e = ap (λ (l : Bytes). x ∷ l) (take_front xs ys n (omega (arith, e)))

module _ (report : Bytes) (most : ℕ) (old new : StreamState) (all : Bytes) (told : old.bytes ≡ Some all) where
  pub same_all : Finds report most found.Alike old new → all ≡ report
  same_all s =
      let h = handed_all old.bytes new.bytes all report told s.0.handed in
      h.all_are ∙ ap (λ (l : Bytes). report ++ l) (h.none s.0.over) ∙ append-nil report

  pub same_short : Finds report most found.Alike old new → length all ≤ most
  same_short s = let e = same_all s in omega (arith, ap length e, s.1)

  pub other_all : (number : ℕ) → ShowsDifference report most number old new → all ≢ report
  other_all number d e =
      let h = handed_all old.bytes new.bytes all (d.front ++ d.last) told d.handed.handed in
      (d.differs h.more (λ t. h.none (d.over t))).other (sym h.all_are ∙ e)

  pub other_long : (number : ℕ) → ShowsDifference report most number old new → most < length all → Begins (take most all) report → ⊥
  other_long number d long (rest, begins) = go d.ended refl
    where
      h : HasLeft old.bytes new.bytes all (d.front ++ d.last)
      h = handed_all old.bytes new.bytes all (d.front ++ d.last) told d.handed.handed

      go : (b : Bool) → d.ended ≡ b → ⊥
      go true e =
          let n = ap length (h.none (d.over e)) in
          let b = d.handed.bound in
          absurd (omega (arith, ap length h.all_are, length-append (d.front ++ d.last) h.more))
      go false e =
          let t = take_over (d.front ++ d.last) h.more most d.handed.bound in
          let r : (d.front ++ d.last) ++ (t.0 ++ rest) ≡ report =
          sym (append_assoc (d.front ++ d.last) t.0 rest) ∙ ap (λ (l : Bytes). l ++ rest) (sym t.1 ∙ ap (take most) (sym h.all_are)) ∙ sym begins in
          (d.differs (t.0 ++ rest) (λ k. absurd (false_not_true (sym e ∙ k)))).other r

  pub passes_long : Finds report most found.Limit old new → most < length all
  passes_long p =
      let h = handed_all old.bytes new.bytes all (p.0 ++ p.1.next ∷ []) told p.1.handed in
      omega (arith, p.1.full, ap length h.all_are, length-append (p.0 ++ p.1.next ∷ []) h.more, length-append p.0 (p.1.next ∷ []))

  pub passes_begins : Finds report most found.Limit old new → Begins (take most all) report
  passes_begins p =
      let h = handed_all old.bytes new.bytes all (p.0 ++ p.1.next ∷ []) told p.1.handed in
      let e : take most all ≡ p.0 =
      ap (take most) (h.all_are ∙ append_assoc p.0 (p.1.next ∷ []) h.more) ∙ take_front p.0 ((p.1.next ∷ []) ++ h.more) most p.1.full in
      (p.2.0, p.2.1 ∙ ap (λ (l : Bytes). l ++ p.2.0) (sym e))
