use Rattle.std.proofs.Common.{rules}
use Rattle.daa_fixed.specs.Leg.{IsLegInRange}
use Rattle.daa_taumod.specs.Volume.{IsVolumeInRange}
use Rattle.daa_detect.proofs.TauDecides.{only_tau}
use Rattle.daa_detect.proofs.tau.tau_hit.Goals as goal

pub returns : goal.returns
returns c =
    let r : IsLegInRange c.args.leg.now = search rules in
    let v : IsVolumeInRange c.args.volume.now = search rules in
    only_tau c.args.leg.now c.args.volume.now c.args.motion.now c.requires.motion r v c.args.first.now c.args.last.now c.requires.window c.requires.tau
    c.requires.falls (λ h. absurd (cc (c.holds_at.ensures.1 h, c.if-holds_at.false))) c.middle_hit.result c.middle_hit.ensures
