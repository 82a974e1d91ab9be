use Rattle.daa_engine.proofs.SomeText.{one_text}
use Rattle.daa_engine.proofs.laws.every_picture_has_one_text.Goals as goal

pub returns : goal.returns
returns c s p ok range = one_text s p ok range
