-- How large a way is.
use Rattle.std.proofs.Common.{ℕ, ◌+◌, ◌*◌, ℤ, pos, ◌+ℤ◌, ◌-ℤ◌, ◌*ℤ◌, T, leb, arith}
use Rattle.daa_fixed.specs.Size.{IsWithin}
use Rattle.daa_fixed.proofs.Bounds.{times, plus, minus}
use Rattle.daa_plane.specs.Inside.Sizes.{IsGap, AreSquares, IsRatio, IsWay}
use Rattle.daa_plane.specs.Rounding.{nearest, part}
use Rattle.daa_plane.specs.Ways.{half_square, squares_of, prime_vertical, meridian, stretched, way_east, way_north, convergence, way_of}
use Rattle.daa_plane.specs.declared.gaps.Gap.{Gap}
use Rattle.daa_plane.specs.declared.ways.Squares.{Squares}
use Rattle.daa_plane.proofs.Sizes.{wider, literal, nearest_small, part_small}

pub half-within : (angle : ℤ) → IsWithin 120000000 angle → IsWithin 1047193 (part angle (pos 87266))
half-within angle h = part_small 1047193 h (literal 87266) tt

pub half_square-within : (angle : ℤ) → IsWithin 120000000 angle → IsWithin 110000 (half_square angle)
unfolding half_square
half_square-within angle h = part_small 110000 (half-within angle h) (half-within angle h) tt

pub prime_inner : (s : ℤ) → IsRatio s → IsWithin 20227 (pos 20119 +ℤ part (pos 102) s)
prime_inner s h = plus (literal 20119) (part_small 108 (literal 102) h tt)

pub prime_vertical-within : (s : ℤ) → IsRatio s → IsWithin 6100000 (prime_vertical s)
unfolding prime_vertical
prime_vertical-within s h = wider 6100000 (plus (literal 6010772) (part_small 21239 (prime_inner s h) h tt)) tt

pub meridian_inner : (s : ℤ) → IsRatio s → IsWithin 60485 (pos 59951 +ℤ part (pos 508) s)
meridian_inner s h = plus (literal 59951) (part_small 534 (literal 508) h tt)

pub meridian-within : (s : ℤ) → IsRatio s → IsWithin 6100000 (meridian s)
unfolding meridian
meridian-within s h = wider 6100000 (plus (literal 5970533) (part_small 63510 (meridian_inner s h) h tt)) tt

pub stretched-within : (k : ℕ) {m n : ℕ} {a b : ℤ} → IsWithin m a → IsWithin n b → T (leb (2 * (m * n) + 10000000) (20000000 * k)) → IsWithin (m + k) (stretched a b)
unfolding stretched
stretched-within k h l t = plus h (part_small k h l t)

pub squares-within : (gap : Gap) → IsGap gap → AreSquares (squares_of gap)
unfolding squares_of
squares-within gap h =
    let s = part_small 10500000 h.sine h.sine tt in
    let lon = half_square-within gap.lon h.lon in
    record { sine = s; lat = half_square-within gap.lat (wider 120000000 h.lat tt); lon = lon; both = part_small 120000 s lon tt }

-- how much each way is stretched
pub by_east : (of : Squares) → AreSquares of → IsWithin 38334 (nearest (of.lat -ℤ of.both) (pos 6))
by_east of h = nearest_small 38334 6 (omega arith) (minus h.lat h.both) tt

pub by_north : (of : Squares) → AreSquares of → IsWithin 56668 (nearest (pos 0 -ℤ pos 2 *ℤ of.lon -ℤ of.both) (pos 6))
by_north of h = nearest_small 56668 6 (omega arith) (minus (minus (literal 0) (times (literal 2) h.lon)) h.both) tt

pub by_turn : (of : Squares) → AreSquares of → IsWithin 131668 (nearest (pos 3 *ℤ of.lat +ℤ pos 2 *ℤ (of.lon -ℤ of.both)) (pos 6))
by_turn of h = nearest_small 131668 6 (omega arith) (plus (times (literal 3) h.lat) (times (literal 2) (minus h.lon h.both))) tt

-- the ways before they are stretched
pub inner_east : (gap : Gap) → IsGap gap → IsWithin 122400001 (part gap.lon gap.cosine)
inner_east gap h = part_small 122400001 h.lon h.cosine tt

pub straight_east : (gap : Gap) (of : Squares) → IsGap gap → AreSquares of → IsWithin 74664002 (part (part gap.lon gap.cosine) (prime_vertical of.sine))
straight_east gap of h s = part_small 74664002 (inner_east gap h) (prime_vertical-within of.sine s.sine) tt

pub straight_north : (gap : Gap) (of : Squares) → IsGap gap → AreSquares of → IsWithin 12200001 (part gap.lat (meridian of.sine))
straight_north gap of h s = part_small 12200001 h.lat (meridian-within of.sine s.sine) tt

pub straight_turn : (gap : Gap) → IsGap gap → IsWithin 122400001 (part gap.lon gap.sine)
straight_turn gap h = part_small 122400001 h.lon h.sine tt

pub way_east-within : (gap : Gap) (of : Squares) → IsGap gap → AreSquares of → IsWithin 100000000 (way_east gap of)
unfolding way_east
way_east-within gap of h s = wider 100000000 (stretched-within 300000 (straight_east gap of h s) (by_east of s) tt) tt

pub way_north-within : (gap : Gap) (of : Squares) → IsGap gap → AreSquares of → IsWithin 100000000 (way_north gap of)
unfolding way_north
way_north-within gap of h s = wider 100000000 (stretched-within 70000 (straight_north gap of h s) (by_north of s) tt) tt

pub convergence-within : (gap : Gap) (of : Squares) → IsGap gap → AreSquares of → IsWithin 140000000 (convergence gap of)
unfolding convergence
convergence-within gap of h s = wider 140000000 (stretched-within 1700000 (straight_turn gap h) (by_turn of s) tt) tt

pub way_of-within : (gap : Gap) → IsGap gap → IsWay (way_of gap)
unfolding way_of
way_of-within gap h =
    let s = squares-within gap h in
    record { east = way_east-within gap _ h s; north = way_north-within gap _ h s; turn = convergence-within gap _ h s }
