use Rattle.std.proofs.Common.{rules, ◌≡◌, ap, subst, ◌∙◌, ℤ, pos, negsuc, ◌+ℤ◌, ◌≤ℤ◌, FitsSigned, w32, w64, to_z-of_z, lit<, arith, unsigned_abs}
use Rattle.std.specs.Int.{int_max}
use Rattle.std.proofs.lemmas.Int.{ints, int_max_is}
use Rattle.daa_fixed.specs.Size.{IsWithin, IsFrom}
use Rattle.daa_fixed.proofs.Bounds.{fits, plus, as_within}
use Rattle.daa_fixed.proofs.LegSizes.{natural}
use Rattle.daa_config.specs.declared.kind.Kind.TheVariants.{VerticalSpeed}
use Rattle.daa_config.specs.Candidates.{least_of, greatest_of}
use Rattle.daa_scan.specs.Reach.{size_of}
use Rattle.daa_scan.proofs.reach.greatest_vertical_speed.Goals as goal
use Rattle.daa_scan.proofs.reach.greatest_vertical_speed.Goals.{After-size-4}

small : (x : ℤ) → IsFrom (negsuc 9999) (pos 10000) x → IsWithin 10000 (pos (unsigned_abs x))
small x h = natural 10000 (unsigned_abs x) (omega (arith, ints, h.least, h.most))

range : (x : ℤ) → (negsuc 9999 ≤ℤ x) × (x ≤ℤ pos 10000) → IsFrom (negsuc 9999) (pos 10000) x
range x h = record { least = h.0; most = h.1 }

max_within : (x y : ℤ) → IsWithin 10000 x → IsWithin 10000 y → IsWithin 10000 (int_max x y)
max_within x y h k = record { size = omega (arith, ints, h.size, k.size, int_max_is x y) }

rate_in : (x : ℤ) → IsFrom (pos 1) (pos 10000) x → IsWithin 10000 x
rate_in x h = record { size = omega (arith, ints, h.least, h.most) }

record Parts (m s r w : ℤ) : Type 0 where
  first : m ≡ r
  second : s ≡ w
  first_size : IsWithin 10000 m
  second_size : IsWithin 10000 s

parts : (c : After-size-4) → Parts c.max.result c.size-4.result
    (int_max (int_max (size_of c.args.encounter.now.own.now.vs) (size_of (least_of VerticalSpeed c.args.encounter.now.config.now)))
    (int_max (size_of (greatest_of VerticalSpeed c.args.encounter.now.config.now)) c.args.encounter.now.config.now.numbers.alt.rate)) (size_of c.args.encounter.now.aircraft.now.vs)
parts c =
    let f1 : FitsSigned w32 c.args.encounter.now.own.now.vs = search rules in
    let f2 : FitsSigned w32 c.least.result = search rules in
    let f3 : FitsSigned w32 c.greatest.result = search rules in
    let f4 : FitsSigned w32 c.alt_rate.result = search rules in
    let f5 : FitsSigned w32 c.args.encounter.now.aircraft.now.vs = search rules in
    let g1 : FitsSigned w64 c.size.result = search rules in
    let g2 : FitsSigned w64 c.size-2.result = search rules in
    let g3 : FitsSigned w64 c.size-3.result = search rules in
    let g4 : FitsSigned w64 c.from.result = search rules in
    let g5 : FitsSigned w64 c.max-first.result = search rules in
    let g6 : FitsSigned w64 c.max-second.result = search rules in
    let e1 : c.size.result ≡ size_of c.args.encounter.now.own.now.vs = simp to_z-of_z at c.size.ensures in
    let e2 : c.size-2.result ≡ size_of (least_of VerticalSpeed c.args.encounter.now.config.now) = (simp to_z-of_z at c.size-2.ensures) ∙ ap size_of c.least.ensures.value in
    let e3 : c.size-3.result ≡ size_of (greatest_of VerticalSpeed c.args.encounter.now.config.now) = (simp to_z-of_z at c.size-3.ensures) ∙ ap size_of c.greatest.ensures.value in
    let e4 : c.from.result ≡ c.args.encounter.now.config.now.numbers.alt.rate = (simp to_z-of_z at c.from.ensures) ∙ c.alt_rate.ensures.value in
    let m1 = (simp to_z-of_z at c.max-first.ensures.value) ∙ (λ i. int_max (e1 i) (e2 i)) in
    let m2 = (simp to_z-of_z at c.max-second.ensures.value) ∙ (λ i. int_max (e3 i) (e4 i)) in
    let m = (simp to_z-of_z at c.max.ensures.value) ∙ (λ i. int_max (m1 i) (m2 i)) in
    let s : c.size-4.result ≡ size_of c.args.encounter.now.aircraft.now.vs = simp to_z-of_z at c.size-4.ensures in
    record {
      first = m;
      second = s;
      first_size = as_within m (max_within _ _
          (max_within _ _ (small _ (range _ c.args.encounter.now.known.own_in_range.vs)) (small _
          (subst (λ (z : ℤ). IsFrom (negsuc 9999) (pos 10000) z) c.least.ensures.value c.least.ensures.in_range)))
          (max_within _ _ (small _ (subst (λ (z : ℤ). IsFrom (negsuc 9999) (pos 10000) z) c.greatest.ensures.value c.greatest.ensures.in_range))
          (rate_in _ (subst (λ (z : ℤ). IsFrom (pos 1) (pos 10000) z) c.alt_rate.ensures.value c.alt_rate.ensures.in_range))));
      second_size = as_within s (small _ (range _ c.args.encounter.now.known.aircraft_in_range.vs));
    }

pub overflow_add-result : goal.overflow_add-result
overflow_add-result c =
    let p = parts c in
    let f1 : FitsSigned w64 c.max.result = search rules in
    let f2 : FitsSigned w64 c.size-4.result = search rules in
    simp to_z-of_z (fits w64 (plus p.first_size p.second_size) (lit< tt))

pub returns-clause-value : goal.returns-clause-value
returns-clause-value c =
    let p = parts c in
    let f1 : FitsSigned w64 c.max.result = search rules in
    let f2 : FitsSigned w64 c.size-4.result = search rules in
    let f3 : FitsSigned w64 (c.max.result +ℤ c.size-4.result) = fits w64 (plus p.first_size p.second_size) (lit< tt) in
    simp to_z-of_z (λ i. p.first i +ℤ p.second i)

pub returns-clause-size : goal.returns-clause-size
returns-clause-size c =
    let p = parts c in
    let f1 : FitsSigned w64 c.max.result = search rules in
    let f2 : FitsSigned w64 c.size-4.result = search rules in
    let w = plus p.first_size p.second_size in
    let f3 : FitsSigned w64 (c.max.result +ℤ c.size-4.result) = fits w64 w (lit< tt) in
    simp to_z-of_z (record { size = omega (arith, w.size) })
