use Rattle.std.proofs.Common.{Err, subst, sym}
use Rattle.daa_replay.specs.declared.opening.Unready.{Unready}
use Rattle.daa_replay.specs.Inside.Opening.{ReadsAs}
use Rattle.daa_replay.proofs.OpeningLemmas.{refused_as}
use Rattle.daa_replay.proofs.opening.read_text.Goals as goal

pub returns-in-Err : goal.returns-in-Err
returns-in-Err c =
    subst (λ (why : Unready). ReadsAs c.args.text.now (Err why)) (sym c.cause_of.ensures)
    (refused_as c.args.text.now c.in-Err.fault c.in-Err.ensures.refused)
