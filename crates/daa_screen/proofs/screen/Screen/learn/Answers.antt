use Rattle.daa_screen.proofs.KeptPictures.{still_kept}
use Rattle.daa_screen.proofs.screen.Screen.learn.Goals as goal

pub invariant_of-self : goal.invariant_of-self
invariant_of-self c = still_kept _ _ _ c.self.invariant c.take_in.ensures.this
