use Rattle.daa_margin.proofs.Decided.{violation_decided}
use Rattle.daa_margin.proofs.laws.may_violate_is_decidable.Goals as goal

pub returns : goal.returns
returns c leg volume bounds n d n0 d1 = violation_decided leg volume bounds n d n0 d1
