-- The bands of a list of values, each with its level.
use Rattle.std.specs.Prelude.{◌≡◌, ◌≢◌, ℕ, ℤ, List, [], ◌∷◌, ◌++◌}
use Rattle.std.specs.List.{All}
use Rattle.daa_bands.specs.Parts.{SplitsByEach}
use Rattle.daa_bands.specs.declared.band.Band.{Band}

-- the band from one value up to another, at a level
abbrev pub band_of : ℤ → ℤ → ℕ → Band
band_of from upto level = record { from = from; upto = upto; level = level }

-- the stretch of a band, values each with its level, begins with the band's first value and ends with its last, and all of
-- it has the band's level
pub record IsStretch (band : Band) (stretch : List (ℤ × ℕ)) : Type 0 where
  pub first : (others : List (ℤ × ℕ)) × (stretch ≡ (band.from, band.level) ∷ others)
  pub last : (others : List (ℤ × ℕ)) × (stretch ≡ others ++ (band.upto, band.level) ∷ [])
  pub level : All (λ mark. mark.1 ≡ band.level) stretch

-- the stretches of the bands, put together, are the values in order, each with its level, and neighbours differ in level
pub record AreBands (marks : List (ℤ × ℕ)) (bands : List Band) : Type 0 where
  pub stretches : SplitsByEach IsStretch bands marks
  pub differ : (before after : List Band) (band next : Band) → bands ≡ before ++ band ∷ next ∷ after → band.level ≢ next.level
