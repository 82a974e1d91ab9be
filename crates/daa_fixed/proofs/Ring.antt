-- Identities of polynomials over ℤ, by computation: `ring ρ p q tt` proves that the polynomials p and q have one value
-- at the numbers ρ. A polynomial is written over the places of ρ, as `# 0 ⊗ # 1 ⊖ lit (pos 2)`, and is brought to a list of
-- terms; an identity that does not hold leaves a term, and then `tt` is refused.
use Rattle.std.proofs.Common.{◌≡◌, ℕ, zero, suc, ◌*◌, List, [], ◌∷◌, Bool, true, false, cond, eqb, leb, refl, sym, ap, subst, ◌∙◌, arith, ℤ, pos, negsuc, ◌+ℤ◌, ◌*ℤ◌, ◌-ℤ◌, ◌≤ℤ◌, neg_ℤ}
use Rattle.std.proofs.lemmas.Int.{ints}
use Rattle.std.proofs.Math.IntN.{+ℤ_assoc, +ℤ_idl, *ℤ_comm, *ℤ-zero, zero-*ℤ}
use borrow.Author.Differences.{up, down, sum_is_lem, product_is}
use lib.Dec.{T, eqb→eq}

-- ---- the laws of ℤ that std lacks
pub add-mul : (a b c : ℤ) → (a +ℤ b) *ℤ c ≡ a *ℤ c +ℤ b *ℤ c
add-mul a b c = omega (arith, ints, ap (λ n. n * up c) (sum_is_lem a b), ap (λ n. n * down c) (sum_is_lem a b))

pub mul_assoc_ℤ : (a b c : ℤ) → (a *ℤ b) *ℤ c ≡ a *ℤ (b *ℤ c)
mul_assoc_ℤ a b c =
    omega (
      arith,
      ints,
      ap (λ n. n * up c) (product_is a b).0,
      ap (λ n. n * down c) (product_is a b).0,
      ap (λ n. n * up c) (product_is a b).1,
      ap (λ n. n * down c) (product_is a b).1,
      ap (λ n. up a * n) (product_is b c).0,
      ap (λ n. down a * n) (product_is b c).0,
      ap (λ n. up a * n) (product_is b c).1,
      ap (λ n. down a * n) (product_is b c).1,
    )

pub one-mul_ℤ : (a : ℤ) → pos 1 *ℤ a ≡ a
one-mul_ℤ a = omega (arith, ints)

pub neg-mul : (a : ℤ) → negsuc 0 *ℤ a ≡ neg_ℤ a
neg-mul a = omega (arith, ints)

pub square_nonneg : (a : ℤ) → pos 0 ≤ℤ (a *ℤ a)
square_nonneg (pos a) = omega (arith, ints)
square_nonneg (negsuc a) = omega (arith, ints)

pub mul_nonneg : (a b : ℤ) → pos 0 ≤ℤ a → pos 0 ≤ℤ b → pos 0 ≤ℤ (a *ℤ b)
mul_nonneg (pos a) (pos b) h k = omega (arith, ints)
mul_nonneg (negsuc a) b h k = absurd (omega (arith, ints))
mul_nonneg (pos a) (negsuc b) h k = absurd (omega (arith, ints))

pub mul-add : (a b c : ℤ) → a *ℤ (b +ℤ c) ≡ a *ℤ b +ℤ a *ℤ c
mul-add a b c = *ℤ_comm a (b +ℤ c) ∙ add-mul b c a ∙ ap (λ x. x +ℤ c *ℤ a) (*ℤ_comm b a) ∙ ap (λ x. a *ℤ b +ℤ x) (*ℤ_comm c a)

-- ---- polynomials, and their normal form: a list of terms, each a coefficient with a rising list of variables
infixl 6 ◌⊕◌ ◌⊖◌
infixl 7 ◌⊗◌
pub data Poly : Type 0 where
  # : ℕ → Poly
  lit : ℤ → Poly
  ◌⊕◌ : Poly → Poly → Poly
  ◌⊖◌ : Poly → Poly → Poly
  ◌⊗◌ : Poly → Poly → Poly
  ⊝ : Poly → Poly

abbrev pub at : List ℤ → ℕ → ℤ
at [] i = pos 0
at (x ∷ ρ) zero = x
at (x ∷ ρ) (suc i) = at ρ i

abbrev pub value : List ℤ → Poly → ℤ
value ρ (# i) = at ρ i
value ρ (lit z) = z
value ρ (p ⊕ q) = value ρ p +ℤ value ρ q
value ρ (p ⊖ q) = value ρ p -ℤ value ρ q
value ρ (p ⊗ q) = value ρ p *ℤ value ρ q
value ρ (⊝ p) = neg_ℤ (value ρ p)

pub record Term : Type 0 where
  pub by : ℤ
  pub of : List ℕ

abbrev ev_m : List ℤ → List ℕ → ℤ
ev_m ρ [] = pos 1
ev_m ρ (i ∷ m) = at ρ i *ℤ ev_m ρ m

abbrev ev : List ℤ → List Term → ℤ
ev ρ [] = pos 0
ev ρ (t ∷ ts) = t.by *ℤ ev_m ρ t.of +ℤ ev ρ ts

abbrev pub insert : ℕ → List ℕ → List ℕ
insert i [] = i ∷ []
insert i (j ∷ m) = cond (leb i j) (i ∷ (j ∷ m)) (j ∷ insert i m)

abbrev pub merge : List ℕ → List ℕ → List ℕ
merge [] n = n
merge (i ∷ m) n = insert i (merge m n)

abbrev pub same : List ℕ → List ℕ → Bool
same [] [] = true
same [] (j ∷ n) = false
same (i ∷ m) [] = false
same (i ∷ m) (j ∷ n) = cond (eqb i j) (same m n) false

abbrev pub add_term : Term → List Term → List Term
add_term t [] = t ∷ []
add_term t (u ∷ us) = cond (same t.of u.of) (record { by = t.by +ℤ u.by; of = u.of } ∷ us) (u ∷ add_term t us)

abbrev pub add_terms : List Term → List Term → List Term
add_terms [] us = us
add_terms (t ∷ ts) us = add_term t (add_terms ts us)

abbrev pub mul_term : Term → List Term → List Term
mul_term t [] = []
mul_term t (u ∷ us) = add_term (record { by = t.by *ℤ u.by; of = merge t.of u.of }) (mul_term t us)

abbrev pub mul_terms : List Term → List Term → List Term
mul_terms [] us = []
mul_terms (t ∷ ts) us = add_terms (mul_term t us) (mul_terms ts us)

abbrev pub normal : Poly → List Term
normal (# i) = record { by = pos 1; of = i ∷ [] } ∷ []
normal (lit z) = record { by = z; of = [] } ∷ []
normal (p ⊕ q) = add_terms (normal p) (normal q)
normal (p ⊖ q) = add_terms (normal p) (mul_term (record { by = negsuc 0; of = [] }) (normal q))
normal (p ⊗ q) = mul_terms (normal p) (normal q)
normal (⊝ p) = mul_term (record { by = negsuc 0; of = [] }) (normal p)

abbrev pub Vanishes : List Term → Type 0
Vanishes [] = Unit {0}
Vanishes (t ∷ ts) = elim t.by as (λ _. Type 0) [ pos n ↦ elim n as (λ _. Type 0) [ zero ↦ Vanishes ts | suc _ ↦ ⊥ ] | negsuc _ ↦ ⊥ ]

-- ---- soundness
swap : (x y z : ℤ) → x *ℤ (y *ℤ z) ≡ y *ℤ (x *ℤ z)
swap x y z = sym (mul_assoc_ℤ x y z) ∙ ap (λ w. w *ℤ z) (*ℤ_comm x y) ∙ mul_assoc_ℤ y x z

swap4 : (x y z w : ℤ) → (x *ℤ y) *ℤ (z *ℤ w) ≡ (x *ℤ z) *ℤ (y *ℤ w)
swap4 x y z w = mul_assoc_ℤ x y (z *ℤ w) ∙ ap (λ u. x *ℤ u) (swap y z w) ∙ sym (mul_assoc_ℤ x z (y *ℤ w))

cond_case : {A : Type 0} (b : Bool) (x y : A) (P : A → Type 0) → (b ≡ true → P x) → (b ≡ false → P y) → P (cond b x y)
cond_case true x y P f g = f refl
cond_case false x y P f g = g refl

ev-insert : (ρ : List ℤ) (i : ℕ) (m : List ℕ) → ev_m ρ (insert i m) ≡ at ρ i *ℤ ev_m ρ m
ev-insert ρ i [] = refl
ev-insert ρ i (j ∷ m) =
    cond_case (leb i j) (i ∷ (j ∷ m)) (j ∷ insert i m) (λ n. ev_m ρ n ≡ at ρ i *ℤ (at ρ j *ℤ ev_m ρ m))
    (λ _. refl)
    (λ _. ap (λ x. at ρ j *ℤ x) (ev-insert ρ i m) ∙ swap (at ρ j) (at ρ i) (ev_m ρ m))

ev-merge : (ρ : List ℤ) (m n : List ℕ) → ev_m ρ (merge m n) ≡ ev_m ρ m *ℤ ev_m ρ n
ev-merge ρ [] n = sym (one-mul_ℤ (ev_m ρ n))
ev-merge ρ (i ∷ m) n = ev-insert ρ i (merge m n) ∙ ap (λ x. at ρ i *ℤ x) (ev-merge ρ m n) ∙ sym (mul_assoc_ℤ (at ρ i) (ev_m ρ m) (ev_m ρ n))

same_is : (m n : List ℕ) → T (same m n) → m ≡ n
same_is [] [] t = refl
same_is [] (j ∷ n) t = absurd t
same_is (i ∷ m) [] t = absurd t
same_is (i ∷ m) (j ∷ n) t =
    let heads : i ≡ j = eqb→eq i j (cond_case (eqb i j) (same m n) false (λ b. T b → T (eqb i j)) (λ e _. subst T (sym e) tt) (λ _ f. absurd f) t) in
    let tails : m ≡ n = same_is m n (cond_case (eqb i j) (same m n) false (λ b. T b → T (same m n)) (λ _ f. f) (λ _ f. absurd f) t) in
    ap (λ k. k ∷ m) heads ∙ ap (λ l. j ∷ l) tails

ev-add_term : (ρ : List ℤ) (t : Term) (us : List Term) → ev ρ (add_term t us) ≡ t.by *ℤ ev_m ρ t.of +ℤ ev ρ us
ev-add_term ρ t [] = refl
ev-add_term ρ t (u ∷ us) =
    cond_case (same t.of u.of) (record { by = t.by +ℤ u.by; of = u.of } ∷ us) (u ∷ add_term t us)
    (λ l. ev ρ l ≡ t.by *ℤ ev_m ρ t.of +ℤ (u.by *ℤ ev_m ρ u.of +ℤ ev ρ us))
    (λ e. ap (λ x. x +ℤ ev ρ us) (add-mul t.by u.by (ev_m ρ u.of))
    ∙ +ℤ_assoc (t.by *ℤ ev_m ρ u.of) (u.by *ℤ ev_m ρ u.of) (ev ρ us)
    ∙ ap (λ m. t.by *ℤ ev_m ρ m +ℤ (u.by *ℤ ev_m ρ u.of +ℤ ev ρ us)) (sym (same_is t.of u.of (subst T (sym e) tt))))
    (λ _. ap (λ x. u.by *ℤ ev_m ρ u.of +ℤ x) (ev-add_term ρ t us)
    ∙ sum3 (u.by *ℤ ev_m ρ u.of) (t.by *ℤ ev_m ρ t.of) (ev ρ us))
  where
    sum3 : (x y z : ℤ) → x +ℤ (y +ℤ z) ≡ y +ℤ (x +ℤ z)
    sum3 x y z = omega (arith, ints)

ev-add_terms : (ρ : List ℤ) (ts us : List Term) → ev ρ (add_terms ts us) ≡ ev ρ ts +ℤ ev ρ us
ev-add_terms ρ [] us = sym (+ℤ_idl (ev ρ us))
ev-add_terms ρ (t ∷ ts) us =
    ev-add_term ρ t (add_terms ts us)
    ∙ ap (λ x. t.by *ℤ ev_m ρ t.of +ℤ x) (ev-add_terms ρ ts us)
    ∙ sym (+ℤ_assoc (t.by *ℤ ev_m ρ t.of) (ev ρ ts) (ev ρ us))

ev-mul_term : (ρ : List ℤ) (t : Term) (us : List Term) → ev ρ (mul_term t us) ≡ (t.by *ℤ ev_m ρ t.of) *ℤ ev ρ us
ev-mul_term ρ t [] = sym (*ℤ-zero (t.by *ℤ ev_m ρ t.of))
ev-mul_term ρ t (u ∷ us) =
    ev-add_term ρ (record { by = t.by *ℤ u.by; of = merge t.of u.of }) (mul_term t us)
    ∙ ap (λ x. (t.by *ℤ u.by) *ℤ x +ℤ ev ρ (mul_term t us)) (ev-merge ρ t.of u.of)
    ∙ ap (λ x. x +ℤ ev ρ (mul_term t us)) (swap4 t.by u.by (ev_m ρ t.of) (ev_m ρ u.of))
    ∙ ap (λ x. (t.by *ℤ ev_m ρ t.of) *ℤ (u.by *ℤ ev_m ρ u.of) +ℤ x) (ev-mul_term ρ t us)
    ∙ sym (mul-add (t.by *ℤ ev_m ρ t.of) (u.by *ℤ ev_m ρ u.of) (ev ρ us))

ev-mul_terms : (ρ : List ℤ) (ts us : List Term) → ev ρ (mul_terms ts us) ≡ ev ρ ts *ℤ ev ρ us
ev-mul_terms ρ [] us = sym (zero-*ℤ (ev ρ us))
ev-mul_terms ρ (t ∷ ts) us =
    ev-add_terms ρ (mul_term t us) (mul_terms ts us)
    ∙ ap (λ x. x +ℤ ev ρ (mul_terms ts us)) (ev-mul_term ρ t us)
    ∙ ap (λ x. (t.by *ℤ ev_m ρ t.of) *ℤ ev ρ us +ℤ x) (ev-mul_terms ρ ts us)
    ∙ sym (add-mul (t.by *ℤ ev_m ρ t.of) (ev ρ ts) (ev ρ us))

pub sound : (ρ : List ℤ) (p : Poly) → value ρ p ≡ ev ρ (normal p)
sound ρ (# i) = omega (arith, ints)
sound ρ (lit z) = omega (arith, ints)
sound ρ (p ⊕ q) = (λ i. sound ρ p i +ℤ sound ρ q i) ∙ sym (ev-add_terms ρ (normal p) (normal q))
sound ρ (p ⊖ q) =
    (λ i. sound ρ p i +ℤ neg_ℤ (sound ρ q i))
    ∙ ap (λ x. ev ρ (normal p) +ℤ x) (sym (neg-mul (ev ρ (normal q))) ∙ sym (ev-mul_term ρ (record { by = negsuc 0; of = [] }) (normal q)))
    ∙ sym (ev-add_terms ρ (normal p) (mul_term (record { by = negsuc 0; of = [] }) (normal q)))
sound ρ (p ⊗ q) = (λ i. sound ρ p i *ℤ sound ρ q i) ∙ sym (ev-mul_terms ρ (normal p) (normal q))
sound ρ (⊝ p) = (λ i. neg_ℤ (sound ρ p i)) ∙ sym (neg-mul (ev ρ (normal p))) ∙ sym (ev-mul_term ρ (record { by = negsuc 0; of = [] }) (normal p))

zero_term : (z : ℤ) (ts : List Term) → Vanishes (record { by = z; of = [] } ∷ ts) → (z ≡ pos 0) × Vanishes ts
zero_term (pos zero) ts h = (refl, h)
zero_term (pos (suc n)) ts h = absurd h
zero_term (negsuc n) ts h = absurd h

vanishes : (ρ : List ℤ) (ts : List Term) → Vanishes ts → ev ρ ts ≡ pos 0
vanishes ρ [] h = refl
vanishes ρ (t ∷ ts) h =
    let k : (t.by ≡ pos 0) × Vanishes ts = zero_term t.by ts h in
    ap (λ x. x *ℤ ev_m ρ t.of +ℤ ev ρ ts) k.0 ∙ ap (λ x. x +ℤ ev ρ ts) (zero-*ℤ (ev_m ρ t.of)) ∙ +ℤ_idl (ev ρ ts) ∙ vanishes ρ ts k.1

equal : (x y : ℤ) → x -ℤ y ≡ pos 0 → x ≡ y
equal x y e = omega (arith, ints)

pub ring : (ρ : List ℤ) (p q : Poly) → Vanishes (normal (p ⊖ q)) → value ρ p ≡ value ρ q
ring ρ p q h = equal (value ρ p) (value ρ q) (sound ρ (p ⊖ q) ∙ vanishes ρ (normal (p ⊖ q)) h)
