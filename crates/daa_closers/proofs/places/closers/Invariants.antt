use Rattle.daa_state.specs.Picture.{aircraft_of}
use Rattle.daa_closers.specs.Closers.{MeetsWithinLevels}
use Rattle.daa_closers.proofs.Lists.{ArePlacesBelow}
use Rattle.daa_closers.proofs.places.closers.Given as goal

abbrev pub invariant-loop-place : goal.invariant-loop-place
invariant-loop-place l = ArePlacesBelow (MeetsWithinLevels l.config l.picture.own l.fn.candidate l.fn.least l.fn.greatest) (aircraft_of l.picture) l.place l.places
