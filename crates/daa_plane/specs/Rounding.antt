-- Rounding to the nearest whole number, and ten-millionths: angles are counted in ten-millionths of a degree or of a radian, and so are
-- sines, and what a number is multiplied by.
use Rattle.std.specs.Prelude.{ℤ, pos, ◌+ℤ◌, ◌*ℤ◌}
use Rattle.std.specs.Int.{int_div_euclid}

-- the whole number nearest to a / b; of two as near, the greater one
unfoldable pub nearest : (a b : ℤ) → ℤ
nearest a b = int_div_euclid (pos 2 *ℤ a +ℤ b) (pos 2 *ℤ b)

-- b ten-millionths of a
unfoldable pub part : (a b : ℤ) → ℤ
part a b = nearest (a *ℤ b) (pos 10000000)
