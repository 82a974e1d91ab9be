-- Two pictures of one ownship, put together.
use Rattle.std.specs.Prelude.{◌≡◌, ◌++◌}
use Rattle.daa_state.specs.Picture.{aircraft_of}
use Rattle.daa_state.specs.declared.word.Picture.{Picture}

-- a picture of the ownship of two others, with the aircraft of the one and then those of the other; there may be more than 64
pub record IsOfBoth (one other both : Picture) : Type 0 where
  pub own_one : one.own ≡ both.own
  pub own_other : other.own ≡ both.own
  pub aircraft : aircraft_of both ≡ aircraft_of one ++ aircraft_of other
