use Rattle.std.proofs.Common.{sym, subst}
use Rattle.daa_screen.specs.Story.{GoesOn}
use Rattle.daa_screen.proofs.LatestEnds.{publishes}
use Rattle.daa_screen.proofs.KeptPictures.{goes_on_itself}
use Rattle.daa_screen.proofs.Pending.{shown_again}
use Rattle.daa_screen.proofs.opening.show_again.Goals as goal

pub publish_as-writer-requires : goal.publish_as-writer-requires
publish_as-writer-requires g c next is =
    let shown = c.args.writer.desk.shown.value in
    publishes _ _ shown next (subst (GoesOn shown) (sym (shown_again shown next _ c.requires is)) (goes_on_itself shown))
