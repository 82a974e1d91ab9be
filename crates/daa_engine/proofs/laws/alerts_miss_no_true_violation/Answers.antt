use Rattle.daa_engine.proofs.ClearLemmas.{now_clear, alert_clear, first_clear}
use Rattle.daa_engine.proofs.laws.alerts_miss_no_true_violation.Goals as goal

pub returns : goal.returns
returns c = record {
  now = λ s own t level is. now_clear s own t level is;
  alerts = λ s own t level is. alert_clear s own t level is;
  first = λ s own t l k is. first_clear s own t l k is;
}
