use Rattle.std.proofs.Common.{rules, ◌≡◌, ℕ, ◌≤◌, pos, ◌*ℤ◌, FitsSigned, w32, to_z, to_z-of_z, lit<, arith, ◌*◌}
use Rattle.std.proofs.lemmas.Int.{ints}
use Rattle.daa_fixed.specs.Size.{IsWithin}
use Rattle.daa_fixed.proofs.Bounds.{fits, times}
use Rattle.daa_fixed.proofs.LegSizes.{natural}
use Rattle.daa_legs.proofs.motion.steps.Goals as goal

small : (k : ℕ) → k ≤ 180 → to_z w32 k ≡ pos k
small k h = omega (arith, ints)

pub overflow_mul-result : goal.overflow_mul-result
overflow_mul-result c =
    let e : to_z w32 c.args.secs ≡ pos c.args.secs = small c.args.secs c.requires.secs in
    let w : IsWithin (180 * 10000) (pos c.args.secs *ℤ c.step.result) = times (natural 180 c.args.secs c.requires.secs) c.step.ensures.size in
    let f1 : FitsSigned w32 c.step.result = search rules in
    simp (e, to_z-of_z) (fits w32 w (lit< tt))

pub returns : goal.returns
returns c =
    let e : to_z w32 c.args.secs ≡ pos c.args.secs = small c.args.secs c.requires.secs in
    let w : IsWithin (180 * 10000) (pos c.args.secs *ℤ c.step.result) = times (natural 180 c.args.secs c.requires.secs) c.step.ensures.size in
    let f1 : FitsSigned w32 c.step.result = search rules in
    let f2 : FitsSigned w32 (pos c.args.secs *ℤ c.step.result) = fits w32 w (lit< tt) in
    let f3 : FitsSigned w32 c.args.rate = search rules in
    simp (e, to_z-of_z) (record { value = λ i. pos c.args.secs *ℤ (simp to_z-of_z at c.step.ensures.value) i; size = w })
