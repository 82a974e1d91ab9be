use Rattle.std.proofs.Common.{◌++◌}
use Rattle.daa_replay.proofs.OneReport.{report_once}
use Rattle.daa_replay.proofs.laws.fronts_begin_reports.Goals as goal

pub returns : goal.returns
returns c settings bytes ended front text accepted f h = (f.0, report_once settings accepted bytes ended text (front ++ f.0) h f.1)
