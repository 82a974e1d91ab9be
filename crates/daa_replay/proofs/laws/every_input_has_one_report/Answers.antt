use Rattle.daa_replay.proofs.SomeReport.{one_report}
use Rattle.daa_replay.proofs.laws.every_input_has_one_report.Goals as goal

pub returns : goal.returns
returns c settings bytes ended accepted = one_report settings accepted bytes ended
