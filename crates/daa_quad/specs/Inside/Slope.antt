-- The slope of a quadratic at a time: which way the least value lies.
use Rattle.std.specs.Prelude.{ℤ, pos, ◌+ℤ◌, ◌*ℤ◌}
use Rattle.daa_quad.specs.declared.Quad.{Quad}

-- the slope at n/d, times d
abbrev pub slope_of : Quad → ℤ → ℤ → ℤ
slope_of q n d = pos 2 *ℤ q.a *ℤ n +ℤ q.b *ℤ d
