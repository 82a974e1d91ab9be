use Rattle.std.proofs.Common.{rules, ◌≡◌, FitsSigned, w32, w64, to_z-of_z, arith, subst, ap, ◌∙◌, refl, true, false, pos, ℤ, ◌-ℤ◌, ◌≤ℤ◌}
use Rattle.std.proofs.lemmas.Int.{ints}
use Rattle.std.specs.Prelude.{int_le}
use Rattle.daa_legs.specs.Inside.Branch.{IsWholeLegs}
use Rattle.daa_legs.specs.Turn.{right_angle}
use Rattle.daa_fixed.proofs.Bounds.{le_test}
use Rattle.daa_legs.proofs.Turning.{not_le}
use Rattle.daa_legs.proofs.branch.turn_away.Goals as goal

pub returns-then-right-le180-clause-right_legs : goal.returns-then-right-le180-clause-right_legs
returns-then-right-le180-clause-right_legs c =
    let t : FitsSigned w32 c.args.track = search rules in
    let a : FitsSigned w32 c.args.c = search rules in
    let d : FitsSigned w32 (c.args.c -ℤ c.args.track) = omega (arith, ints, c.requires.track, c.requires.c) in
    let r : FitsSigned w32 c.round-right.result = search rules in
    let f : FitsSigned w64 c.from.result = search rules in
    let e : FitsSigned w32 c.args.rate = search rules in
    let right : c.round-right.result ≡ right_angle c.args.track c.args.c = simp to_z-of_z at c.round-right.ensures.value in
    let from : c.from.result ≡ c.round-right.result = simp to_z-of_z at c.from.ensures in
    let legs : IsWholeLegs c.from.result c.args.rate c.whole_legs.result = simp to_z-of_z at c.whole_legs.ensures.legs in
    λ _. subst (λ (z : ℤ). IsWholeLegs z c.args.rate c.whole_legs.result) (from ∙ right) legs

pub returns-else-right-le180-clause-left : goal.returns-else-right-le180-clause-left
returns-else-right-le180-clause-left c =
    let t : FitsSigned w32 c.args.track = search rules in
    let a : FitsSigned w32 c.args.c = search rules in
    let d : FitsSigned w32 (c.args.c -ℤ c.args.track) = omega (arith, ints, c.requires.track, c.requires.c) in
    let r : FitsSigned w32 c.round-right.result = search rules in
    let right : c.round-right.result ≡ right_angle c.args.track c.args.c = simp to_z-of_z at c.round-right.ensures.value in
    let test : int_le c.round-right.result (pos 180) ≡ false = simp to_z-of_z at c.if-right-le180.false in
    λ _. subst (λ (z : ℤ). pos 181 ≤ℤ z) right (not_le c.round-right.result test)

pub returns-else-right-le180-clause-left_legs : goal.returns-else-right-le180-clause-left_legs
returns-else-right-le180-clause-left_legs c =
    let t : FitsSigned w32 c.args.track = search rules in
    let a : FitsSigned w32 c.args.c = search rules in
    let d : FitsSigned w32 (c.args.c -ℤ c.args.track) = omega (arith, ints, c.requires.track, c.requires.c) in
    let r : FitsSigned w32 c.round-right.result = search rules in
    let l : FitsSigned w32 (pos 360 -ℤ c.round-right.result) = omega (arith, ints, c.round-right.ensures.in_range) in
    let f : FitsSigned w64 c.from-else-right-le180.result = search rules in
    let e : FitsSigned w32 c.args.rate = search rules in
    let right : c.round-right.result ≡ right_angle c.args.track c.args.c = simp to_z-of_z at c.round-right.ensures.value in
    let from : c.from-else-right-le180.result ≡ pos 360 -ℤ c.round-right.result = simp to_z-of_z at c.from-else-right-le180.ensures in
    let legs : IsWholeLegs c.from-else-right-le180.result c.args.rate c.whole_legs-else-right-le180.result = simp to_z-of_z at c.whole_legs-else-right-le180.ensures.legs in
    λ _. subst (λ (z : ℤ). IsWholeLegs z c.args.rate c.whole_legs-else-right-le180.result) (from ∙ ap (λ (z : ℤ). pos 360 -ℤ z) right) legs

pub returns-then-right-le180-clause-right : goal.returns-then-right-le180-clause-right
returns-then-right-le180-clause-right c =
    let t : FitsSigned w32 c.args.track = search rules in
    let a : FitsSigned w32 c.args.c = search rules in
    let d : FitsSigned w32 (c.args.c -ℤ c.args.track) = omega (arith, ints, c.requires.track, c.requires.c) in
    let r : FitsSigned w32 c.round-right.result = search rules in
    let right : c.round-right.result ≡ right_angle c.args.track c.args.c = simp to_z-of_z at c.round-right.ensures.value in
    let test : int_le c.round-right.result (pos 180) ≡ true = simp to_z-of_z at c.if-right-le180.true in
    λ _. subst (λ (z : ℤ). z ≤ℤ pos 180) right ((le_test c.round-right.result (pos 180) c.round-right.result (pos 180) refl refl).0 test)
