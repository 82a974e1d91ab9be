use Rattle.daa_margin.proofs.Sometimes.{sometime_decided}
use Rattle.daa_margin.proofs.laws.may_violate_sometime_is_decidable.Goals as goal

pub returns : goal.returns
returns c leg volume bounds l v b = sometime_decided leg volume bounds l v b
