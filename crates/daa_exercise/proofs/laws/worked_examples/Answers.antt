use Rattle.daa_exercise.proofs.ExampleLemmas.{outputs, third, own, aircraft, second, counts}
use Rattle.daa_exercise.proofs.laws.worked_examples.Goals as goal

pub returns : goal.returns
returns c = record { outputs = outputs; third = third; own = own; aircraft = aircraft; second = second; counts = counts }
