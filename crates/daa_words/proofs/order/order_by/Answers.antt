use Rattle.std.proofs.Common.{Some, None, ap, option_map, refl, ◌∙◌}
use Rattle.clap.specs.Matches.{found_of}
use Rattle.clap.specs.Walk.{rows_of}
use Rattle.std.specs.Prelude.{codes}
use Rattle.daa_words.specs.Order.{meaning, number_at, task_of}
use Rattle.daa_words.proofs.WordsLemmas.{asked_read}
use Rattle.daa_words.proofs.order.order_by.Goals as goal

pub returns-in_err-config : goal.returns-in_err-config
returns-in_err-config c =
    let found = found_of c.args.matches.now in
    ap (option_map meaning) c.from_residual-in_err-config.ensures
    ∙ asked_read c.args.name.now found (Some (task_of c.in_ok-task.task)) None (number_at (codes "workers") (rows_of found)) c.in_ok-task.ensures c.in_err-config.ensures refl

pub returns : goal.returns
returns c = asked_read c.args.name.now (found_of c.args.matches.now) (Some (task_of c.in_ok-task.task)) (Some c.in_ok-config.config.now) (Some c.in_ok-workers.workers)
    c.in_ok-task.ensures c.in_ok-config.ensures c.in_ok-workers.ensures
