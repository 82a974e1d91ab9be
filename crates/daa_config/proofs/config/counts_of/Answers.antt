use Rattle.daa_config.specs.declared.kind.Kind.TheVariants.{Track, GroundSpeed, VerticalSpeed, Altitude}
use Rattle.daa_config.proofs.config.counts_of.Goals as goal

pub returns : goal.returns
returns c settings same Track = c.count_kind.ensures settings same
returns c settings same GroundSpeed = c.count_kind-2.ensures settings same
returns c settings same VerticalSpeed = c.count_kind-3.ensures settings same
returns c settings same Altitude = c.count_kind-4.ensures settings same
