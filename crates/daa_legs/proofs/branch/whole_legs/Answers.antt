use Rattle.std.proofs.Common.{FitsSigned, w64, to_z-of_z, subst, arith, ℤ, pos, ◌≤ℤ◌}
use Rattle.std.proofs.lemmas.Int.{ints}
use Rattle.daa_legs.specs.Inside.Branch.{IsWholeLegs}
use Rattle.daa_legs.proofs.LeadingFlights.{whole_near_z}
use Rattle.daa_legs.proofs.branch.whole_legs.Goals as goal

pub returns-clause-legs : goal.returns-clause-legs
returns-clause-legs c =
    let f1 : FitsSigned w64 c.args.way = c.ranges.way in
    let below = simp to_z-of_z at c.times_in.ensures.below in
    let above = simp to_z-of_z at c.times_in.ensures.above in
    let some : pos 1 ≤ℤ pos c.args.divisor.now.rate = omega (arith, ints, c.requires.divisor, c.requires.rate.least) in
    subst (λ (r : ℤ). IsWholeLegs c.args.way r c.times_in.result) c.requires.divisor
    (whole_near_z c.args.way (pos c.args.divisor.now.rate) c.times_in.result c.requires.way.least some below (omega (arith, above)))
