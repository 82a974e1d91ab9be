use Rattle.std.proofs.Common.{rules, ap, ◌∙◌, ◌≡◌, sym, subst, ℕ, ◌+◌, ℤ, pos, neg_ℤ, ◌-ℤ◌, ◌*ℤ◌, FitsSigned, w32, w64, to_z-of_z, lit<, arith}
use Rattle.std.proofs.lemmas.Int.{ints}
use Rattle.daa_fixed.specs.Size.{IsWithin, IsFrom}
use Rattle.daa_fixed.specs.Toward.{toward_of}
use Rattle.daa_fixed.proofs.Bounds.{fits}
use Rattle.daa_fixed.proofs.Towards.{toward_of-step}
use Rattle.daa_legs.proofs.CandidateCases.{next_product, product_nonneg}
use Rattle.daa_legs.proofs.motion.rise.Goals as goal

-- what the two calls give, and that their difference is small
record Risen (alt a rate x y : ℤ) (k : ℕ) : Type 0 where
  value : x -ℤ y ≡ toward_of (pos 60 *ℤ alt) (pos 60 *ℤ a) (pos (k + 1) *ℤ rate) -ℤ toward_of (pos 60 *ℤ alt) (pos 60 *ℤ a) (pos k *ℤ rate)
  size : IsWithin 10000 (x -ℤ y)

risen : (alt a rate x y : ℤ) (k : ℕ) → IsFrom (pos 1) (pos 10000) rate → x ≡ toward_of (pos 60 *ℤ alt) (pos 60 *ℤ a) (pos (k + 1) *ℤ rate)
    → y ≡ toward_of (pos 60 *ℤ alt) (pos 60 *ℤ a) (pos k *ℤ rate) → Risen alt a rate x y k
risen alt a rate x y k r p q = record {
  value = λ i. p i -ℤ q i;
  size =
      let step = toward_of-step (pos 60 *ℤ alt) (pos 60 *ℤ a) (pos k *ℤ rate) rate (product_nonneg k rate (omega (arith, ints, r.least))) (omega (arith, ints, r.least)) in
      let s : IsFrom (neg_ℤ rate) rate (x -ℤ y) = subst (λ (z : ℤ). IsFrom (neg_ℤ rate) rate z) (sym (λ i. (p ∙ ap (toward_of (pos 60 *ℤ alt) (pos 60 *ℤ a)) (next_product k rate)) i -ℤ q i)) step in
      record { size = omega (arith, ints, s.least, s.most, r.most) };
}

known : (c : goal.After-toward_after-2) → Risen c.args.alt c.args.a c.args.rate c.toward_after.result c.toward_after-2.result c.args.k
known c =
    let f1 : FitsSigned w32 c.args.alt = search rules in
    let f2 : FitsSigned w32 c.args.a = search rules in
    let f3 : FitsSigned w32 c.args.rate = search rules in
    let g1 : FitsSigned w64 c.feet.result = search rules in
    let g2 : FitsSigned w64 c.feet-2.result = search rules in
    let g3 : FitsSigned w64 c.feet-3.result = search rules in
    let g4 : FitsSigned w64 c.feet-4.result = search rules in
    let h1 : c.feet.result ≡ pos 60 *ℤ c.args.alt = simp to_z-of_z at c.feet.ensures in
    let h2 : c.feet-2.result ≡ pos 60 *ℤ c.args.a = simp to_z-of_z at c.feet-2.ensures in
    let h3 : c.feet-3.result ≡ pos 60 *ℤ c.args.alt = simp to_z-of_z at c.feet-3.ensures in
    let h4 : c.feet-4.result ≡ pos 60 *ℤ c.args.a = simp to_z-of_z at c.feet-4.ensures in
    risen c.args.alt c.args.a c.args.rate c.toward_after.result c.toward_after-2.result c.args.k c.requires.rate
    ((simp to_z-of_z at c.toward_after.ensures) ∙ (λ i. toward_of (h1 i) (h2 i) (pos (c.args.k + 1) *ℤ c.args.rate)))
    ((simp to_z-of_z at c.toward_after-2.ensures) ∙ (λ i. toward_of (h3 i) (h4 i) (pos c.args.k *ℤ c.args.rate)))

pub overflow_sub-result : goal.overflow_sub-result
overflow_sub-result c =
    let r = known c in
    let f1 : FitsSigned w64 c.toward_after.result = search rules in
    let f2 : FitsSigned w64 c.toward_after-2.result = search rules in
    simp to_z-of_z (fits w64 r.size (lit< tt))

pub returns-clause-value : goal.returns-clause-value
returns-clause-value c =
    let r = known c in
    let f1 : FitsSigned w64 c.toward_after.result = search rules in
    let f2 : FitsSigned w64 c.toward_after-2.result = search rules in
    let f3 : FitsSigned w64 (c.toward_after.result -ℤ c.toward_after-2.result) = fits w64 r.size (lit< tt) in
    simp to_z-of_z r.value

pub returns-clause-size : goal.returns-clause-size
returns-clause-size c =
    let r = known c in
    let f1 : FitsSigned w64 c.toward_after.result = search rules in
    let f2 : FitsSigned w64 c.toward_after-2.result = search rules in
    let f3 : FitsSigned w64 (c.toward_after.result -ℤ c.toward_after-2.result) = fits w64 r.size (lit< tt) in
    simp to_z-of_z r.size
