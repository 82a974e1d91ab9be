use Rattle.daa_alert.proofs.OneAlert.{now_once, alert_once}
use Rattle.daa_alert.proofs.laws.alerts_are_unique.Goals as goal

pub returns : goal.returns
returns c = record { levels = now_once; alerts = alert_once }
