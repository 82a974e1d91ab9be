-- What a comparison in code says.
use Rattle.std.proofs.Common.{◌≡◌, sym, subst, true, false, ℤ, ◌≤ℤ◌, ◌<ℤ◌}
use Rattle.std.proofs.lemmas.Int.{by_lt_z}
use Rattle.std.specs.Int.Signed.{le_z_yes, lt_z_yes}
use lib.Signed.{le_z, lt_z}
use lib.Dec.{T}

pub is_below : (x y : ℤ) → lt_z x y ≡ true → x <ℤ y
is_below x y e = lt_z_yes (subst T (sym e) tt)

pub is_not_below : (x y : ℤ) → lt_z x y ≡ false → y ≤ℤ x
is_not_below x y e = by_lt_z x y (λ l. absurd (subst T e l.lt)) (λ k. k)

pub is_within : (x y : ℤ) → le_z x y ≡ true → x ≤ℤ y
is_within x y e = le_z_yes (subst T (sym e) tt)

pub is_beyond : (x y : ℤ) → le_z x y ≡ false → y <ℤ x
is_beyond x y e = by_lt_z y x (λ l. l) (λ k. absurd (subst T e k.le))
