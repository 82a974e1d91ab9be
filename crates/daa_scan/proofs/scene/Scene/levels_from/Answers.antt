use Rattle.std.proofs.Common.{length}
use Rattle.daa_scan.proofs.SceneMasks.{masks_alone}
use Rattle.daa_scan.proofs.scene.Scene.levels_from.Goals as goal

pub returns-clause-masks : goal.returns-clause-masks
returns-clause-masks c j b there = masks_alone c.args.self.now c.args.aircraft c.args.first
    (length c.args.self.now.settings.levels) c.args.masks.now c.add_from.new.masks c.add_from.ensures.masks c.requires.clear c.add_from.ensures.length j b
