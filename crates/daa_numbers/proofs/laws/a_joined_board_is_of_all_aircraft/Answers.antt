use Rattle.daa_numbers.proofs.JoinLemmas.{joined_board}
use Rattle.daa_numbers.proofs.laws.a_joined_board_is_of_all_aircraft.Goals as goal

pub returns : goal.returns
returns c settings one other both a b joined of_both of_one of_other j = joined_board settings one other both a b joined of_both of_one of_other j
