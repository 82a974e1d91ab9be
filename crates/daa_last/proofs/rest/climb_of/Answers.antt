use Rattle.std.proofs.Common.{rules, ◌≡◌, ◌⊎◌, inl, inr, ℕ, min, max, ◌≤◌, ℤ, pos, ◌+ℤ◌, ◌-ℤ◌, ◌*ℤ◌, ◌≤ℤ◌, unsigned_abs, FitsSigned, w32, w64, to_z, of_z, sym, subst, ⊎_elim, arith}
use Rattle.std.proofs.lemmas.Bool.{cases_lt}
use Rattle.std.proofs.lemmas.Int.{ints, to_z-of_z}
use Rattle.daa_fixed.specs.Toward.{toward_of}
use Rattle.daa_fixed.proofs.Integers.{mul_le, le_trans_ℤ}
use Rattle.daa_last.proofs.Climbs.{steady}
use Rattle.daa_last.proofs.rest.climb_of.Goals as goal

few : (n m w most : ℕ) (r z : ℤ) → n ≡ min m most → m ≡ max w 1 → pos 0 ≤ℤ r → (pos w *ℤ r) ≤ℤ z → (n ≤ 1) ⊎ ((pos n *ℤ r) ≤ℤ z)
few n m w most r z a b r0 h = ⊎_elim
    (λ lt. inl (omega (arith, a, b, lt)))
    (λ ge. inr (le_trans_ℤ (pos n *ℤ r) (pos w *ℤ r) z (mul_le (pos n) (pos w) r r0 (omega (arith, ints, a, b, ge))) h))
    (cases_lt w 1)

pub returns-else-rise-eq0-clause-keeps : goal.returns-else-rise-eq0-clause-keeps
returns-else-rise-eq0-clause-keeps c j lt =
    let f1 : FitsSigned w32 c.args.a = search rules in
    let f2 : FitsSigned w32 c.args.rate = search rules in
    let f3 : FitsSigned w64 c.rise-rise.result = search rules in
    let back : to_z w64 (of_z w64 c.rise-rise.result) ≡ c.rise-rise.result = to_z-of_z w64 c.rise-rise.result f3 in
    let e : c.rise-rise.result ≡ toward_of c.args.height.now (pos 60 *ℤ c.args.a) c.args.rate -ℤ c.args.height.now = simp to_z-of_z at c.rise-rise.ensures in
    let w : (pos c.whole_seconds.result *ℤ c.args.rate) ≤ℤ pos (unsigned_abs (pos 60 *ℤ c.args.a -ℤ c.args.height.now)) = simp to_z-of_z at c.whole_seconds.ensures in
    let some = c.requires.rate.least in
    let r0 : pos 0 ≤ℤ c.args.rate = omega (arith, ints, some) in
    subst (λ (v : ℤ). toward_of (c.args.height.now +ℤ pos j *ℤ v) (pos 60 *ℤ c.args.a) c.args.rate -ℤ (c.args.height.now +ℤ pos j *ℤ v) ≡ v) (sym back)
    (steady c.args.height.now (pos 60 *ℤ c.args.a) c.args.rate c.rise-rise.result r0 e c.min.result j lt
    (few c.min.result c.max.result c.whole_seconds.result c.args.most c.args.rate _ c.min.ensures c.max.ensures r0 w))
