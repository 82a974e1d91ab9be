-- What an aircraft violates at a time of a leg: what the reports say, where both are exact; else what may be in truth, by what the
-- reports may err by at that time.
use Rattle.std.specs.Prelude.{ℕ, ℤ, Bool, true, false}
use Rattle.daa_fixed.specs.declared.Leg.{Leg}
use Rattle.daa_taumod.specs.declared.Volume.{Volume}
use Rattle.daa_taumod.specs.Volume.{Violates}
use Rattle.daa_margin.specs.declared.ErrorBounds.{ErrorBounds}
use Rattle.daa_margin.specs.MayViolate.{MayViolate}
use Rattle.daa_state.specs.declared.word.Traffic.{Traffic}
use Rattle.daa_legs.specs.Errors.{are_exact, errors_on}

-- at a time of the leg: it violates the volume, where the reports are exact; else it may in truth
abbrev pub ViolatesIf : (exact : Bool) → Leg → Volume → ErrorBounds → ℤ → ℤ → Type 0
ViolatesIf true leg volume errors = Violates leg volume
ViolatesIf false leg volume errors = MayViolate leg volume errors

-- the same of a leg that begins at second k, as the aircraft sees it
abbrev pub ViolatesBy : Traffic → ℕ → Leg → Volume → ℤ → ℤ → Type 0
ViolatesBy aircraft k leg volume = ViolatesIf (are_exact aircraft.bounds) leg volume (errors_on aircraft.bounds aircraft.age k)
