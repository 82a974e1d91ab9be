-- Worked examples of bands.
use Rattle.std.proofs.Common.{◌≡◌, [], ◌∷◌, pos}
use Rattle.daa_bands.specs.Band.{AreBands, band_of}
use Rattle.daa_bands.specs.Walk.{with_mark, bands_of}
use Rattle.daa_bands.proofs.BandLemmas.{found, only}

pub joined : AreBands ((pos 0, 1) ∷ (pos 90, 2) ∷ (pos 180, 2) ∷ (pos 270, 1) ∷ []) (band_of (pos 0) (pos 0) 1 ∷ band_of (pos 90) (pos 180) 2 ∷ band_of (pos 270) (pos 270) 1 ∷ [])
unfolding with_mark bands_of
joined = found ((pos 0, 1) ∷ (pos 90, 2) ∷ (pos 180, 2) ∷ (pos 270, 1) ∷ [])

pub one_value : AreBands ((pos 1000, 0) ∷ []) (band_of (pos 1000) (pos 1000) 0 ∷ [])
unfolding with_mark bands_of
one_value = found ((pos 1000, 0) ∷ [])

pub split : AreBands ((pos 0, 1) ∷ (pos 90, 1) ∷ []) (band_of (pos 0) (pos 0) 1 ∷ band_of (pos 90) (pos 90) 1 ∷ []) → ⊥
unfolding with_mark bands_of
split h =
    let e : band_of (pos 0) (pos 0) 1 ∷ band_of (pos 90) (pos 90) 1 ∷ [] ≡ band_of (pos 0) (pos 90) 1 ∷ [] = only ((pos 0, 1) ∷ (pos 90, 1) ∷ []) _ h in cc

pub left_out : AreBands ((pos 0, 1) ∷ (pos 90, 0) ∷ []) (band_of (pos 0) (pos 0) 1 ∷ []) → ⊥
unfolding with_mark bands_of
left_out h =
    let e : band_of (pos 0) (pos 0) 1 ∷ [] ≡ band_of (pos 0) (pos 0) 1 ∷ band_of (pos 90) (pos 90) 0 ∷ [] = only ((pos 0, 1) ∷ (pos 90, 0) ∷ []) _ h in cc
