use Rattle.std.proofs.Common.{◌≡◌, ◌<◌, ℕ, pos, false}
use Rattle.daa_plane.specs.Courses.{is_along}
use Rattle.daa_plane.specs.Sines.{direction_of}
use Rattle.daa_plane.proofs.courses.track_of.Given as goal

-- the velocity is along none of the degrees so far
abbrev pub invariant-loop-degree : goal.invariant-loop-degree
invariant-loop-degree l = (d : ℕ) → d < l.degree → is_along l.own (direction_of (pos d)) ≡ false
