use Rattle.std.proofs.Common.{rules, ◌+◌, ◌*◌, ◌/◌, ◌<◌, ◌≤◌, ℕ, subst, arith}
use Rattle.std.proofs.Math.Nat.{div-mul-le_self, lt-div-mul-add}
use Rattle.daa_legs.proofs.Divisors.{not_more, not_less}
use Rattle.daa_legs.proofs.divisor.shared.Goals as goal

pub returns-clause-below : goal.returns-clause-below
returns-clause-below c =
    let d = c.args.divisor.now in
    let most : d.share * d.rate < 4294967296 + d.rate = search rules in
    subst (λ (w : ℕ). c.from.result * d.share / 4294967296 * d.rate ≤ w + d.rate) c.from.ensures
    (not_more c.from.result d.rate d.share (c.from.result * d.share / 4294967296) (omega (arith, c.from.ensures, c.requires)) most (div-mul-le_self (c.from.result * d.share) 4294967296))

pub returns-clause-above : goal.returns-clause-above
returns-clause-above c =
    let d = c.args.divisor.now in
    let rate : 1 ≤ d.rate = search rules in
    let least : 4294967296 ≤ d.share * d.rate = search rules in
    let some : 0 < 4294967296 = omega arith in
    subst (λ (w : ℕ). w < c.from.result * d.share / 4294967296 * d.rate + d.rate) c.from.ensures
    (not_less c.from.result d.rate d.share (c.from.result * d.share / 4294967296) rate least (omega (arith, lt-div-mul-add {a = c.from.result * d.share} {b = 4294967296} some)))
