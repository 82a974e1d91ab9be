-- What contracts read in a picture.
use Rattle.std.specs.Prelude.{List}
use Rattle.daa_state.specs.declared.word.Traffic.{Traffic}
use Rattle.daa_state.specs.declared.word.Picture.{Picture}

-- its aircraft, in the order of their lines; `time` and `own` are read as fields
abbrev pub aircraft_of : Picture → List Traffic
aircraft_of picture = picture.traffic.items
