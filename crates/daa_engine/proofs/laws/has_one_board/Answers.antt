use Rattle.daa_engine.proofs.OneText.{same_level}
use Rattle.daa_engine.proofs.laws.has_one_board.Goals as goal

pub returns : goal.returns
returns c s p a b index l one other low h = same_level s p a b one other index l low h
