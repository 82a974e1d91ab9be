-- A turn toward a track, in degrees clockwise from north.
use Rattle.std.specs.Prelude.{ℤ, pos, ◌+ℤ◌, ◌-ℤ◌, if◌then◌else◌, int_le}
use Rattle.std.specs.Int.{int_min, int_rem_euclid}

-- the angle to the right, from a track to c
abbrev pub right_angle : (track c : ℤ) → ℤ
right_angle track c = int_rem_euclid (c -ℤ track) (pos 360)

-- the track turned toward c by at most `most` degrees: right if c is at most 180 right, else left
unfoldable pub turned : (track c most : ℤ) → ℤ
turned track c most =
    if int_le (right_angle track c) (pos 180)
    then int_rem_euclid (track +ℤ int_min most (right_angle track c)) (pos 360)
    else int_rem_euclid (track -ℤ int_min most (pos 360 -ℤ right_angle track c)) (pos 360)
