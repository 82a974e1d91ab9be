-- A time of a leg at which it violates a volume.
use Rattle.std.specs.Prelude.{ℤ}
use Rattle.daa_fixed.specs.declared.Leg.{Leg}
use Rattle.daa_fixed.specs.Time.{IsTime}
use Rattle.daa_taumod.specs.declared.Volume.{Volume}
use Rattle.daa_taumod.specs.Volume.{Violates}

-- n/d is a time of the leg, and both parts of the volume hold at that one time
pub record IsHit (leg : Leg) (volume : Volume) (n d : ℤ) : Type 0 where
  pub time : IsTime leg.secs n d
  pub violates : Violates leg volume n d
