use Rattle.std.proofs.Common.{refl, Some}
use Rattle.daa_replay.proofs.CompleteLemmas.{one_configuration, one_task}
use Rattle.daa_replay.proofs.laws.configurations_are_unique.Goals as goal

pub returns : goal.returns
returns c words held task other_task settings other h k =
    (one_task words (Some held) task other_task settings other h k, one_configuration words (Some held) held task other_task settings other refl h k)
