use Rattle.std.proofs.Common.{Some, None, ap, option_map, ◌∙◌}
use Rattle.clap.specs.Matches.{found_of}
use Rattle.daa_words.specs.Order.{task_of}
use Rattle.daa_words.proofs.WordsLemmas.{states_read}
use Rattle.daa_words.proofs.order.judge_by.Goals as goal

pub returns-in_err-states : goal.returns-in_err-states
returns-in_err-states c = ap (option_map task_of) c.from_residual.ensures ∙ states_read (found_of c.args.matches.now) None c.in_err-states.ensures

pub returns : goal.returns
returns c = states_read (found_of c.args.matches.now) (Some c.in_ok-states.states.now) c.in_ok-states.ensures
