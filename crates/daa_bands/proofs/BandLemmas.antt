-- Each list of values with their levels has one list of bands.
use Rattle.std.proofs.Common.{◌≡◌, ◌≢◌, ◌∙◌, ◌==◌, ℕ, Bool, true, false, List, [], ◌∷◌, ◌++◌, refl, sym, ap, subst, arith, eq-eqb}
use Rattle.std.specs.List.{All, AllByRecursion}
use Rattle.std.proofs.lemmas.List.Elements.{recursion_from_All, All-from_recursion}
use Rattle.std.proofs.lemmas.Bool.Decides.{nat_tests}
use Rattle.daa_bands.specs.declared.band.Band.{Band}
use Rattle.daa_fixed.specs.One.{HasOne}
use Rattle.daa_bands.specs.Band.{IsStretch, AreBands}
use Rattle.daa_bands.specs.Parts.{SplitsInto, SplitsByEach}
use Rattle.daa_bands.specs.Walk.{Mark, with_mark, bands_of}

-- ---- bands, one after the other

-- the band differs in level from its neighbour, the first of the bands after it
abbrev pub DiffersFromFirst : Band → List Band → Type 0
DiffersFromFirst band [] = Unit {0}
DiffersFromFirst band (next ∷ bands) = band.level ≢ next.level

abbrev Chained : List Mark → List Band → Type 0
Chained marks [] = marks ≡ []
Chained marks (band ∷ bands) =
    DiffersFromFirst band bands × SplitsInto (IsStretch band) (λ rest. Chained rest bands) marks

-- neighbours differ in level
abbrev AreApart : List Band → Type 0
AreApart bands = (before after : List Band) (band next : Band) → bands ≡ before ++ band ∷ next ∷ after → band.level ≢ next.level

differs_first : (band : Band) (bands : List Band) → AreApart (band ∷ bands) → DiffersFromFirst band bands
differs_first band [] h = tt
differs_first band (next ∷ bands) h = h [] bands band next refl

chain : (bands : List Band) (marks : List Mark) → SplitsByEach IsStretch bands marks → AreApart bands → Chained marks bands
chain [] marks s h = s
chain (band ∷ bands) marks s h = (
  differs_first band bands h,
  record {
    first = s.first;
    second = s.second;
    first_is = s.first_is;
    second_is = chain bands s.second s.second_is (λ before after x y e. h (band ∷ before) after x y (ap (λ (bs : List Band). band ∷ bs) e));
    joined = s.joined;
  },
)

stretches_in : (bands : List Band) (marks : List Mark) → Chained marks bands → SplitsByEach IsStretch bands marks
stretches_in [] marks h = h
stretches_in (band ∷ bands) marks (d, h) =
    record { first = h.first; second = h.second; first_is = h.first_is; second_is = stretches_in bands h.second h.second_is; joined = h.joined }

first_apart : (band : Band) (bands after : List Band) (x y : Band) → DiffersFromFirst band bands → band ∷ bands ≡ x ∷ (y ∷ after) → x.level ≢ y.level
first_apart band [] after x y d e = cc
first_apart band (next ∷ bands) after x y d e =
    let same : band ≡ x = cc in
    let other : next ≡ y = cc in
    λ k. d (ap (λ (b : Band). b.level) same ∙ k ∙ sym (ap (λ (b : Band). b.level) other))

apart : (bands : List Band) (marks : List Mark) → Chained marks bands → AreApart bands
apart [] marks h [] after x y e = cc
apart [] marks h (z ∷ before) after x y e = cc
apart (band ∷ bands) marks (d, h) [] after x y e = first_apart band bands after x y d e
apart (band ∷ bands) marks (d, h) (z ∷ before) after x y e = apart bands h.second h.second_is before after x y cc

-- ---- marks, one after the other

-- a band of one value
abbrev alone : Mark → Band
alone mark = record { from = mark.0; upto = mark.0; level = mark.1 }

-- the band begins one value earlier
abbrev longer : Mark → Band → Band
longer mark band = record { from = mark.0; upto = band.upto; level = band.level }

differs : (a b : ℕ) → a ≢ b → (b == a) ≡ false
differs a b h = grind (arith, nat_tests)

pub with_mark_same : (mark : Mark) (band : Band) (bands : List Band) → band.level ≡ mark.1 → with_mark mark (band ∷ bands) ≡ longer mark band ∷ bands
unfolding with_mark
with_mark_same mark band bands e = rw (eq-eqb _ _ e) refl

pub with_mark_new : (mark : Mark) (bands : List Band) → DiffersFromFirst (alone mark) bands → with_mark mark bands ≡ alone mark ∷ bands
unfolding with_mark
with_mark_new mark [] d = refl
with_mark_new mark (band ∷ bands) d = rw (differs mark.1 band.level d) refl

-- ---- the bands that are found are bands

one : (mark : Mark) → IsStretch (alone mark) (mark ∷ [])
one mark = record {
  first = ([], refl);
  last = ([], refl);
  level = All-from_recursion (λ (m : Mark). m.1 ≡ mark.1) (mark ∷ []) (refl, tt);
}

more : (mark : Mark) (band : Band) (stretch : List Mark) → mark.1 ≡ band.level → IsStretch band stretch → IsStretch (longer mark band) (mark ∷ stretch)
more mark band stretch e s = record {
  first = (stretch, ap (λ (l : ℕ). (mark.0, l) ∷ stretch) e);
  last = (mark ∷ s.last.0, ap (λ (ms : List Mark). mark ∷ ms) s.last.1);
  level = All-from_recursion (λ (m : Mark). m.1 ≡ band.level) (mark ∷ stretch) (e, recursion_from_All (λ (m : Mark). m.1 ≡ band.level) stretch s.level);
}

longer_differs : (mark : Mark) (band : Band) (bands : List Band) → DiffersFromFirst band bands → DiffersFromFirst (longer mark band) bands
longer_differs mark band [] d = tt
longer_differs mark band (next ∷ bands) d = d

add : (mark : Mark) (marks : List Mark) (bands : List Band) → Chained marks bands → Chained (mark ∷ marks) (with_mark mark bands)
add mark marks [] h = subst (Chained (mark ∷ marks)) (sym (with_mark_new mark [] tt)) (
  tt,
  record { first = mark ∷ []; second = []; first_is = one mark; second_is = refl; joined = ap (λ (ms : List Mark). mark ∷ ms) h },
)
add mark marks (band ∷ bands) (d, h) = go (band.level == mark.1) refl
  where
    go : (b : Bool) → (band.level == mark.1) ≡ b → Chained (mark ∷ marks) (with_mark mark (band ∷ bands))
    go true t =
        let l : mark.1 ≡ band.level = grind (arith, nat_tests) in
        subst (Chained (mark ∷ marks)) (sym (with_mark_same mark band bands (sym l))) (
          longer_differs mark band bands d,
          record {
            first = mark ∷ h.first;
            second = h.second;
            first_is = more mark band h.first l h.first_is;
            second_is = h.second_is;
            joined = ap (λ (ms : List Mark). mark ∷ ms) h.joined;
          },
        )
    go false t =
        let l : mark.1 ≢ band.level = grind (arith, nat_tests) in
        subst (Chained (mark ∷ marks)) (sym (with_mark_new mark (band ∷ bands) l))
        (l, record { first = mark ∷ []; second = marks; first_is = one mark; second_is = (d, h); joined = refl })

chained : (marks : List Mark) → Chained marks (bands_of marks)
unfolding bands_of
chained [] = refl
chained (mark ∷ marks) = add mark marks (bands_of marks) (chained marks)

pub found : (marks : List Mark) → AreBands marks (bands_of marks)
found marks = record { stretches = stretches_in (bands_of marks) marks (chained marks); differ = apart (bands_of marks) marks (chained marks) }

-- ---- no other list is

tail_of : (mark : Mark) (marks others rest : List Mark) (m : Mark) → mark ∷ marks ≡ (m ∷ others) ++ rest → (mark ≡ m) × (marks ≡ others ++ rest)
tail_of mark marks others rest m e = (cc, cc)

single : (x y : Mark) (zs : List Mark) → x ∷ [] ≡ zs ++ y ∷ [] → x ≡ y
single x y [] e = cc
single x y (z ∷ []) e = cc
single x y (z ∷ (w ∷ zs)) e = cc

last_tail : (x n y : Mark) (ns zs : List Mark) → x ∷ (n ∷ ns) ≡ zs ++ y ∷ [] → (others : List Mark) × (n ∷ ns ≡ others ++ y ∷ [])
last_tail x n y ns [] e = cc
last_tail x n y ns (z ∷ zs) e = (zs, cc)

-- the band takes the first mark, and the others are as they are known to be
module _ (mark : Mark) (marks : List Mark) (band : Band) (bands : List Band) (stretch rest : List Mark) where
  split : (others : List Mark) (others-is : stretch ≡ (band.from, band.level) ∷ others) → mark ∷ marks ≡ stretch ++ rest
      → (mark ≡ (band.from, band.level)) × (marks ≡ others ++ rest)
  split others f e = tail_of mark marks others rest (band.from, band.level) (subst (λ (ms : List Mark). mark ∷ marks ≡ ms ++ rest) f e)

  alone_first : (others-is : stretch ≡ (band.from, band.level) ∷ []) → mark ∷ marks ≡ stretch ++ rest → IsStretch band stretch
      → DiffersFromFirst band bands → with_mark mark bands ≡ band ∷ bands
  alone_first f e s d =
      let t = split [] f e in
      let l : (band.from, band.level) ≡ (band.upto, band.level) = single (band.from, band.level) (band.upto, band.level) s.last.0 (sym f ∙ s.last.1) in
      let b : alone mark ≡ band = ap alone t.0 ∙ ap (λ (x : Mark). record { from = band.from; upto = x.0; level = band.level }) l in
      with_mark_new mark bands (subst (λ (x : Band). DiffersFromFirst x bands) (sym b) d) ∙ ap (λ (x : Band). x ∷ bands) b

  -- the band without its first value
  abbrev shorter : Mark → Band
  shorter next = record { from = next.0; upto = band.upto; level = band.level }

  next_level : (next : Mark) (others : List Mark) → stretch ≡ (band.from, band.level) ∷ (next ∷ others) → IsStretch band stretch
      → (next.1 ≡ band.level) × AllByRecursion (λ (m : Mark). m.1 ≡ band.level) (next ∷ others)
  next_level next others f s =
      let a = recursion_from_All (λ (m : Mark). m.1 ≡ band.level) ((band.from, band.level) ∷ (next ∷ others))
      (subst (λ (ms : List Mark). All (λ m. m.1 ≡ band.level) ms) f s.level) in
      (a.1.0, a.1)

  shorter_bands : (next : Mark) (others : List Mark) → stretch ≡ (band.from, band.level) ∷ (next ∷ others) → mark ∷ marks ≡ stretch ++ rest
      → IsStretch band stretch → DiffersFromFirst (shorter next) bands → Chained rest bands → Chained marks (shorter next ∷ bands)
  shorter_bands next others f e s d r =
      let t = split (next ∷ others) f e in let l = next_level next others f s in
      let k = last_tail (band.from, band.level) next (band.upto, band.level) others s.last.0 (sym f ∙ s.last.1) in (
        d,
        record {
          first = next ∷ others;
          second = rest;
          first_is = record {
            first = (others, ap (λ (n : ℕ). (next.0, n) ∷ others) l.0);
            last = k;
            level = All-from_recursion (λ (m : Mark). m.1 ≡ band.level) (next ∷ others) l.1;
          };
          second_is = r;
          joined = t.1;
        },
      )

  take_first : (known : List Band) → ((bs : List Band) → Chained marks bs → bs ≡ known) → mark ∷ marks ≡ stretch ++ rest → IsStretch band stretch
      → DiffersFromFirst band bands → Chained rest bands → band ∷ bands ≡ with_mark mark known
  take_first known ih e s d r = go s.first.0 s.first.1
    where
      go : (others : List Mark) → stretch ≡ (band.from, band.level) ∷ others → band ∷ bands ≡ with_mark mark known
      go [] f =
          let i : bands ≡ known = ih bands (subst (λ (ms : List Mark). Chained ms bands) (sym (split [] f e).1) r) in
          sym (alone_first f e s d) ∙ ap (with_mark mark) i
      go (next ∷ others) f =
          let t = split (next ∷ others) f e in
          let i : shorter next ∷ bands ≡ known = ih (shorter next ∷ bands) (shorter_bands next others f e s (keeps bands d) r) in
          let w = with_mark_same mark (shorter next) bands (ap (λ (m : Mark). m.1) (sym t.0)) in
          ap (λ (m : Mark). (record { from = m.0; upto = band.upto; level = band.level }) ∷ bands) (sym t.0) ∙ sym w ∙ ap (with_mark mark) i
        where
          keeps : (bs : List Band) → DiffersFromFirst band bs → DiffersFromFirst (shorter next) bs
          keeps [] d = tt
          keeps (b ∷ bs) d = d

chained_only : (marks : List Mark) (bands : List Band) → Chained marks bands → bands ≡ bands_of marks
unfolding bands_of
chained_only [] [] h = refl
chained_only [] (band ∷ bands) (d, h) =
    let s = h.first_is in let f = s.first.1 in
    let g : [] ≡ ((band.from, band.level) ∷ s.first.0) ++ h.second = subst (λ (ms : List Mark). [] ≡ ms ++ h.second) f h.joined in cc
chained_only (mark ∷ marks) [] h = cc
chained_only (mark ∷ marks) (band ∷ bands) (d, h) =
    take_first mark marks band bands h.first h.second (bands_of marks) (λ bs k. chained_only marks bs k) h.joined h.first_is d h.second_is

pub only : (marks : List Mark) (bands : List Band) → AreBands marks bands → bands ≡ bands_of marks
only marks bands are = chained_only marks bands (chain bands marks are.stretches are.differ)

pub one_list : (marks : List Mark) → HasOne (AreBands marks)
one_list marks = record { one = bands_of marks; is = found marks; only = λ others h. only marks others h }
