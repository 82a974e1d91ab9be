-- When a level lies within another, so that whatever meets the one meets the other.
use Rattle.std.specs.Prelude.{◌≤◌}
use Rattle.daa_taumod.specs.Volume.{place_of}
use Rattle.daa_config.specs.declared.level.Level.{Level}

-- no threshold and no lookahead is greater, and the inner model does not come after the outer one in the order tau, closest
-- approach, modified tau, entry point
pub record LiesWithin (inner outer : Level) : Type 0 where
  pub lookahead : inner.lookahead ≤ outer.lookahead
  pub dthr : inner.volume.dthr ≤ outer.volume.dthr
  pub zthr : inner.volume.zthr ≤ outer.volume.zthr
  pub tthr : inner.volume.tthr ≤ outer.volume.tthr
  pub tcoa : inner.volume.tcoa ≤ outer.volume.tcoa
  pub model : place_of inner.volume.model ≤ place_of outer.volume.model
