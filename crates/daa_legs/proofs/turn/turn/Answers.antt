use Rattle.std.proofs.Common.{rules, ◌≡◌, true, false, ap, sym, ◌∙◌, ℤ, pos, ◌+ℤ◌, ◌-ℤ◌, FitsSigned, w32, to_z-of_z, arith}
use Rattle.std.proofs.lemmas.Int.{ints, int_min_is}
use Rattle.std.specs.Prelude.{int_le}
use Rattle.std.specs.Int.{int_min, int_rem_euclid}
use Rattle.daa_legs.specs.Turn.{right_angle}
use Rattle.daa_legs.proofs.Turns.{turned_right, turned_left}
use Rattle.daa_legs.proofs.turn.turn.Goals as goal

pub overflow_sub-track : goal.overflow_sub-track
overflow_sub-track c =
    let t : FitsSigned w32 c.args.track = search rules in
    let b : FitsSigned w32 c.args.most = search rules in
    let m : FitsSigned w32 c.min-else-right-le180.result = search rules in
    let r : FitsSigned w32 c.rem_euclid-right.result = search rules in
    let l : FitsSigned w32 (pos 360 -ℤ c.rem_euclid-right.result) = omega (arith, ints, c.rem_euclid-right.ensures.lower_bound, c.rem_euclid-right.ensures.upper_bound) in
    let v : c.min-else-right-le180.result ≡ int_min c.args.most (pos 360 -ℤ c.rem_euclid-right.result) = simp to_z-of_z at c.min-else-right-le180.ensures.value in
    let i = int_min_is c.args.most (pos 360 -ℤ c.rem_euclid-right.result) in
    simp to_z-of_z (omega (arith, ints, v, i, c.rem_euclid-right.ensures.lower_bound, c.rem_euclid-right.ensures.upper_bound))

pub returns-then-right-le180-clause-value : goal.returns-then-right-le180-clause-value
returns-then-right-le180-clause-value c =
    let t : FitsSigned w32 c.args.track = search rules in
    let a : FitsSigned w32 c.args.c = search rules in
    let b : FitsSigned w32 c.args.most = search rules in
    let d : FitsSigned w32 (c.args.c -ℤ c.args.track) = omega (arith, ints, c.requires.track, c.requires.c) in
    let r : FitsSigned w32 c.rem_euclid-right.result = search rules in
    let m : FitsSigned w32 c.min.result = search rules in
    let x : FitsSigned w32 c.rem_euclid.result = search rules in
    let right : c.rem_euclid-right.result ≡ right_angle c.args.track c.args.c = simp to_z-of_z at c.rem_euclid-right.ensures.value in
    let v : c.min.result ≡ int_min c.args.most c.rem_euclid-right.result = simp to_z-of_z at c.min.ensures.value in
    let i = int_min_is c.args.most c.rem_euclid-right.result in
    let s : FitsSigned w32 (c.args.track +ℤ c.min.result) = omega
    (arith, ints, v, i, c.rem_euclid-right.ensures.lower_bound, c.rem_euclid-right.ensures.upper_bound, c.requires.most, c.requires.track) in
    let test : int_le c.rem_euclid-right.result (pos 180) ≡ true = simp to_z-of_z at c.if-right-le180.true in
    simp to_z-of_z ((simp to_z-of_z at c.rem_euclid.ensures.value)
    ∙ ap (λ (z : ℤ). int_rem_euclid (c.args.track +ℤ z) (pos 360)) (v ∙ ap (λ (z : ℤ). int_min c.args.most z) right)
    ∙ turned_right c.args.track c.args.c c.args.most (ap (λ (z : ℤ). int_le z (pos 180)) (sym right) ∙ test))

pub returns-else-right-le180-clause-value : goal.returns-else-right-le180-clause-value
returns-else-right-le180-clause-value c =
    let t : FitsSigned w32 c.args.track = search rules in
    let a : FitsSigned w32 c.args.c = search rules in
    let b : FitsSigned w32 c.args.most = search rules in
    let d : FitsSigned w32 (c.args.c -ℤ c.args.track) = omega (arith, ints, c.requires.track, c.requires.c) in
    let r : FitsSigned w32 c.rem_euclid-right.result = search rules in
    let l : FitsSigned w32 (pos 360 -ℤ c.rem_euclid-right.result) = omega (arith, ints, c.rem_euclid-right.ensures.lower_bound, c.rem_euclid-right.ensures.upper_bound) in
    let m : FitsSigned w32 c.min-else-right-le180.result = search rules in
    let x : FitsSigned w32 c.rem_euclid-else-right-le180.result = search rules in
    let right : c.rem_euclid-right.result ≡ right_angle c.args.track c.args.c = simp to_z-of_z at c.rem_euclid-right.ensures.value in
    let v : c.min-else-right-le180.result ≡ int_min c.args.most (pos 360 -ℤ c.rem_euclid-right.result) = simp to_z-of_z at c.min-else-right-le180.ensures.value in
    let i = int_min_is c.args.most (pos 360 -ℤ c.rem_euclid-right.result) in
    let s : FitsSigned w32 (c.args.track -ℤ c.min-else-right-le180.result) = omega
    (arith, ints, v, i, c.rem_euclid-right.ensures.lower_bound, c.rem_euclid-right.ensures.upper_bound, c.requires.most, c.requires.track) in
    let test : int_le c.rem_euclid-right.result (pos 180) ≡ false = simp to_z-of_z at c.if-right-le180.false in
    simp to_z-of_z ((simp to_z-of_z at c.rem_euclid-else-right-le180.ensures.value)
    ∙ ap (λ (z : ℤ). int_rem_euclid (c.args.track -ℤ z) (pos 360)) (v ∙ ap (λ (z : ℤ). int_min c.args.most (pos 360 -ℤ z)) right)
    ∙ turned_left c.args.track c.args.c c.args.most (ap (λ (z : ℤ). int_le z (pos 180)) (sym right) ∙ test))
