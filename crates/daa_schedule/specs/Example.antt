-- Five units for two workers, an example that shows what the definitions say.
use Rattle.std.specs.Prelude.{List, [], ◌∷◌}
use Rattle.daa_schedule.specs.CoreState.{CoreState, opened}
use Rattle.daa_schedule.specs.Runs.{run}
use Rattle.daa_schedule.specs.declared.step.Step.{Step}

-- the core of five units and two workers after these steps
abbrev pub five_for_two_after : List Step → CoreState
five_for_two_after steps = run (opened (11 ∷ 12 ∷ 13 ∷ 14 ∷ 15 ∷ []) 2) steps
