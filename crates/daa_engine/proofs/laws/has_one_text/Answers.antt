use Rattle.daa_engine.proofs.OneText.{text_only}
use Rattle.daa_engine.proofs.laws.has_one_text.Goals as goal

pub returns : goal.returns
returns c s p a b ok h k = text_only s p ok a b h k
