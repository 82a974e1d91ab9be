use Rattle.std.proofs.Common.{◌≡◌, Ok, Some, rules}
use Rattle.daa_state.specs.MomentStep.{step, stepped}
use Rattle.daa_state.specs.declared.word.Word.TheVariants.{End}
use Rattle.daa_replay.proofs.CheckpointLemmas.{last-ended}
use Rattle.daa_replay.proofs.lines.step.Goals as goal

pub returns-in-Ok-Some-clause-last : goal.returns-in-Ok-Some-clause-last
returns-in-Ok-Some-clause-last c =
    let taken : step c.args.moments.now c.in-Ok.word ≡ Ok (stepped c.take.new.self (Some c.in-Ok-Some.picture)) = search rules in
    last-ended c.args.moments.now c.take.new.self c.in-Ok.word c.in-Ok-Some.picture taken

pub returns-in-Ok-End-clause-last : goal.returns-in-Ok-End-clause-last
returns-in-Ok-End-clause-last c = last-ended c.args.moments.now c.end.new.self End c.end.result c.end.ensures.taken
