use Rattle.std.proofs.Common.{rules, ◌∙◌, ◌≡◌, ℤ, pos, ◌+ℤ◌, ◌-ℤ◌, ◌*ℤ◌, FitsSigned, w32, w64, to_z-of_z, lit<, ap, arith}
use Rattle.std.specs.Int.{int_min}
use Rattle.std.proofs.lemmas.Int.{ints, int_max_is, int_min_is}
use Rattle.daa_fixed.specs.Size.{IsFrom, IsWithin}
use Rattle.daa_fixed.specs.Toward.{toward_of}
use Rattle.daa_fixed.proofs.Bounds.{fits, as_within}
use Rattle.daa_last.proofs.rest.rise.Goals as goal

-- at most the rate away
near : (h y r : ℤ) → IsFrom (pos 1) (pos 10000) r → IsWithin 10000 (toward_of h y r -ℤ h)
near h y r b =
    let most = int_max_is (h -ℤ r) (int_min (h +ℤ r) y) in
    let least = int_min_is (h +ℤ r) y in
    record { size = omega (arith, ints, b.least, b.most) }

known : (c : goal.After-result-1) → c.toward.result ≡ toward_of c.args.height.now (pos 60 *ℤ c.args.a) c.args.rate
known c =
    let f1 : FitsSigned w32 c.args.a = search rules in
    let f2 : FitsSigned w32 c.args.rate = search rules in
    let f3 : FitsSigned w64 c.args.height.now = search rules in
    let f4 : FitsSigned w64 c.feet.result = search rules in
    let f5 : FitsSigned w64 c.from.result = search rules in
    let f6 : FitsSigned w64 c.toward.result = search rules in
    let e1 : c.feet.result ≡ pos 60 *ℤ c.args.a = simp to_z-of_z at c.feet.ensures in
    let e2 : c.from.result ≡ c.args.rate = simp to_z-of_z at c.from.ensures in
    (simp to_z-of_z at c.toward.ensures) ∙ (λ i. toward_of c.args.height.now (e1 i) (e2 i))

small : (c : goal.After-result-1) → IsWithin 10000 (c.toward.result -ℤ c.args.height.now)
small c = as_within (ap (λ (z : ℤ). z -ℤ c.args.height.now) (known c)) (near c.args.height.now (pos 60 *ℤ c.args.a) c.args.rate c.requires.rate)

pub overflow_sub-result : goal.overflow_sub-result
overflow_sub-result c =
    let f1 : FitsSigned w64 c.args.height.now = search rules in
    let f2 : FitsSigned w64 c.toward.result = search rules in
    simp to_z-of_z (fits w64 (small c) (lit< tt))

pub returns : goal.returns
returns c =
    let f1 : FitsSigned w64 c.args.height.now = search rules in
    let f2 : FitsSigned w64 c.toward.result = search rules in
    let f3 : FitsSigned w64 (c.toward.result -ℤ c.args.height.now) = fits w64 (small c) (lit< tt) in
    simp to_z-of_z (ap (λ (z : ℤ). z -ℤ c.args.height.now) (known c))
