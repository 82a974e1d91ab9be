use Rattle.daa_exercise.proofs.SumLemmas.{alerts_add_up, shown_add_up}
use Rattle.daa_exercise.proofs.laws.counts_add_up.Goals as goal

pub returns : goal.returns
returns c = record {
  alerts = λ s pictures levels are. alerts_add_up s pictures levels are;
  shown = λ s kind pictures levels are. shown_add_up s kind pictures levels are;
}
