use Rattle.daa_bands.proofs.BandLemmas.{one_list}
use Rattle.daa_bands.proofs.WalkLemmas.{one_kind_list}
use Rattle.daa_bands.proofs.laws.has_one_list_of_bands.Goals as goal

pub returns : goal.returns
returns c = record { marks = one_list; kinds = one_kind_list }
