use Rattle.std.proofs.Common.{rules}
use Rattle.daa_fixed.specs.Leg.{IsLegInRange}
use Rattle.daa_taumod.specs.Volume.{IsVolumeInRange}
use Rattle.daa_detect.proofs.DecidingTimes.{last_decides, other_than_tau}
use Rattle.daa_detect.proofs.detection.falling_hit.Goals as goal

pub returns-in-Tcpa : goal.returns-in-Tcpa
returns-in-Tcpa c =
    let r : IsLegInRange c.args.leg.now = search rules in
    let v : IsVolumeInRange c.args.volume.now = search rules in
    last_decides c.args.leg.now c.args.volume.now c.args.motion.now c.requires.motion r v c.args.first.now c.args.last.now c.requires.window
    (other_than_tau c.args.volume.now.model c.in-Tcpa.is) c.requires.falls _ c.end_if_held.ensures
