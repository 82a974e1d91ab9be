use Rattle.std.proofs.Common.{◌≡◌, rules, subst}
use Rattle.daa_replay.specs.declared.checkpoint.Checkpoint.{Checkpoint}
use Rattle.daa_replay.specs.Inside.Batch.{HasTexts}
use Rattle.daa_replay.proofs.batch.next_part.Goals as goal

pub returns-in-Some-clause-texts : goal.returns-in-Some-clause-texts
returns-in-Some-clause-texts c settings piece all =
    let part = c.in-Some.part in
    let same : part.from ≡ c.args.here.now = search rules in
    subst (λ (p : Checkpoint). HasTexts settings piece p part.upto part.refused part.text.now) same (c.in-Some.ensures.texts settings piece all)
