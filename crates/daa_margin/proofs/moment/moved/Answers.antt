use Rattle.std.proofs.Common.{◌≡◌, ℤ, lit<, rules, FitsSigned, w64, to_z, of_z, to_z-of_z, ◌^◌, ◌+ℤ◌, ◌*ℤ◌, refl, arith}
use Rattle.daa_fixed.specs.Size.{IsWithin}
use Rattle.daa_fixed.proofs.Bounds.{times, plus, fits}
use Rattle.daa_margin.proofs.MomentSizes as size
use Rattle.daa_margin.proofs.MomentSizes.{IsMomentInRange}
use Rattle.daa_margin.proofs.moment.moved.Goals as goal

-- nothing is lost
kept : (d b n s : ℤ) → IsWithin (2 ^ 33) d → IsWithin 40000000 b → IsWithin (2 ^ 42) n → IsWithin 40000 s
    → FitsSigned w64 (to_z w64 (of_z w64 (to_z w64 (of_z w64 d) *ℤ to_z w64 (of_z w64 b))) +ℤ to_z w64 (of_z w64 (to_z w64 (of_z w64 n) *ℤ to_z w64 (of_z w64 s))))
    × (to_z w64 (of_z w64 (to_z w64 (of_z w64 (to_z w64 (of_z w64 d) *ℤ to_z w64 (of_z w64 b))) +ℤ to_z w64 (of_z w64 (to_z w64 (of_z w64 n) *ℤ to_z w64 (of_z w64 s))))) ≡ d *ℤ b +ℤ n *ℤ s)
    × IsWithin (2 ^ 59) (to_z w64 (of_z w64 (to_z w64 (of_z w64 (to_z w64 (of_z w64 d) *ℤ to_z w64 (of_z w64 b))) +ℤ to_z w64 (of_z w64 (to_z w64 (of_z w64 n) *ℤ to_z w64 (of_z w64 s))))))
kept d b n s hd hb hn hs =
    let f1 = fits w64 hd (lit< tt) in
    let f2 = fits w64 hb (lit< tt) in
    let f3 = fits w64 hn (lit< tt) in
    let f4 = fits w64 hs (lit< tt) in
    let f5 = fits w64 (times hd hb) (lit< tt) in
    let f6 = fits w64 (times hn hs) (lit< tt) in
    let sum = plus (times hd hb) (times hn hs) in
    let f7 = fits w64 sum (lit< tt) in
    simp to_z-of_z (f7, refl, record { size = omega (arith, sum.size) })

pub overflow_add-result : goal.overflow_add-result
overflow_add-result c =
    let t : IsMomentInRange c.args.moment.now = search rules in
    (kept c.args.moment.now.den c.args.begin c.args.moment.now.num c.args.speed (size.d t) c.requires.begin (size.n t) c.requires.speed).0

pub returns : goal.returns
returns c =
    let t : IsMomentInRange c.args.moment.now = search rules in
    let k = kept c.args.moment.now.den c.args.begin c.args.moment.now.num c.args.speed (size.d t) c.requires.begin (size.n t) c.requires.speed in
    record { value = k.1; size = k.2 }
