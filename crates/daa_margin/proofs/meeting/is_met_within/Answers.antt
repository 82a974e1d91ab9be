use Rattle.daa_margin.proofs.Deciding.{decides}
use Rattle.daa_margin.proofs.meeting.is_met_within.Goals as goal

pub returns : goal.returns
returns c =
    let same = decides c.args.leg.now c.args.volume.now c.args.bounds.now c.args.first.now c.args.last.now c.requires.window in
    ((λ t. same.0 (c.comes_soon.ensures.0 t)), (λ h. c.comes_soon.ensures.1 (same.1 h)))
