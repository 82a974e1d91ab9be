use Rattle.std.proofs.Common.{to_z-of_z, lit<}
use Rattle.daa_legs.proofs.VectorSizes.{fits_words, difference_fits}
use Rattle.daa_legs.proofs.encounter.difference.Goals as goal

pub returns : goal.returns
returns c =
    let x = fits_words c.requires.x (lit< tt) in
    let y = fits_words c.requires.y (lit< tt) in
    let d = difference_fits (lit< tt) c.requires.x c.requires.y in
    simp (to_z-of_z x.east, to_z-of_z x.north, to_z-of_z x.up, to_z-of_z y.east, to_z-of_z y.north, to_z-of_z y.up, to_z-of_z d.east, to_z-of_z d.north, to_z-of_z d.up)
