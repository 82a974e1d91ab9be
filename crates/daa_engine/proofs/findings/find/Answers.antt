use Rattle.daa_config.specs.declared.kind.Kind.TheVariants.{Track, GroundSpeed, VerticalSpeed, Altitude}
use Rattle.daa_engine.proofs.findings.find.Goals as goal

pub returns : goal.returns
returns c = elim [
  | Track ↦ c.find_kind.ensures
  | GroundSpeed ↦ c.find_kind-2.ensures
  | VerticalSpeed ↦ c.find_kind-3.ensures
  | Altitude ↦ c.find_kind-4.ensures
]
