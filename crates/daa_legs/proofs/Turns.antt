-- The cases of a turn.
use Rattle.std.proofs.Common.{◌≡◌, Bool, true, false, ap, sym, ℤ, pos, ◌+ℤ◌, ◌-ℤ◌}
use Rattle.std.specs.Prelude.{if◌then◌else◌, int_le}
use Rattle.std.specs.Int.{int_min, int_rem_euclid}
use Rattle.daa_legs.specs.Turn.{right_angle, turned}

abbrev right_turn : ℤ → ℤ → ℤ → ℤ
right_turn track c most = int_rem_euclid (track +ℤ int_min most (right_angle track c)) (pos 360)

abbrev left_turn : ℤ → ℤ → ℤ → ℤ
left_turn track c most = int_rem_euclid (track -ℤ int_min most (pos 360 -ℤ right_angle track c)) (pos 360)

pub turned_right : (track c most : ℤ) → int_le (right_angle track c) (pos 180) ≡ true → int_rem_euclid (track +ℤ int_min most (right_angle track c)) (pos 360) ≡ turned track c most
unfolding turned
turned_right track c most e = ap (λ (b : Bool). if b then right_turn track c most else left_turn track c most) (sym e)

pub turned_left : (track c most : ℤ) → int_le (right_angle track c) (pos 180) ≡ false → int_rem_euclid (track -ℤ int_min most (pos 360 -ℤ right_angle track c)) (pos 360) ≡ turned track c most
unfolding turned
turned_left track c most e = ap (λ (b : Bool). if b then right_turn track c most else left_turn track c most) (sym e)
