use Rattle.std.proofs.Common.{rules, ◌≡◌, ◌/◌, ℕ, ℤ, pos, negsuc, ◌-ℤ◌, ◌*ℤ◌, ◌≤ℤ◌, unsigned_abs, FitsSigned, w32, w64, to_z-of_z, lit<, sym, subst, arith}
use Rattle.std.proofs.Math.Nat.{div-mul-le_self}
use Rattle.std.proofs.lemmas.Int.{ints}
use Rattle.daa_fixed.specs.Size.{IsFrom, IsWithin}
use Rattle.daa_fixed.proofs.Bounds.{fits}
use Rattle.daa_last.proofs.rest.whole_seconds.Goals as goal

far : (a h : ℤ) → IsFrom (negsuc 1999) (pos 60000) a → IsWithin 20000000 h → IsWithin 30000000 (pos 60 *ℤ a -ℤ h)
far a h b w = let s = w.size in record { size = omega (arith, ints, b.least, b.most, s) }

fitted : (u d : ℕ) (r z : ℤ) → d ≡ unsigned_abs r → pos 1 ≤ℤ r → u ≡ unsigned_abs z → (pos (u / d) *ℤ r) ≤ℤ pos (unsigned_abs z)
fitted u d r z e some f =
    let whole = div-mul-le_self u d in
    let is : pos d ≡ r = omega (arith, ints, e, some) in
    subst (λ (x : ℤ). (pos (u / d) *ℤ x) ≤ℤ pos (unsigned_abs z)) is (omega (arith, ints, whole, f))

pub returns : goal.returns
returns c =
    let f1 : FitsSigned w32 c.args.a = search rules in
    let f2 : FitsSigned w32 c.args.rate = search rules in
    let f3 : FitsSigned w64 c.args.height.now = search rules in
    let f4 : FitsSigned w64 c.feet.result = search rules in
    let e1 : c.feet.result ≡ pos 60 *ℤ c.args.a = simp to_z-of_z at c.feet.ensures in
    let f5 : FitsSigned w64 (c.feet.result -ℤ c.args.height.now) =
    subst (λ (z : ℤ). FitsSigned w64 (z -ℤ c.args.height.now)) (sym e1) (fits w64 (far c.args.a c.args.height.now c.requires.a c.requires.height) (lit< tt)) in
    let v1 : c.unsigned_abs.result ≡ unsigned_abs (c.feet.result -ℤ c.args.height.now) = simp to_z-of_z at c.unsigned_abs.ensures.value in
    let v2 : c.unsigned_abs-2.result ≡ unsigned_abs c.args.rate = simp to_z-of_z at c.unsigned_abs-2.ensures.value in
    fitted c.unsigned_abs.result c.unsigned_abs-2.result c.args.rate (pos 60 *ℤ c.args.a -ℤ c.args.height.now) v2 c.requires.rate.least
    (subst (λ (z : ℤ). c.unsigned_abs.result ≡ unsigned_abs (z -ℤ c.args.height.now)) e1 v1)
