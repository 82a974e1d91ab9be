use Rattle.std.proofs.Common.{inr}
use Rattle.daa_numbers.proofs.faults.fault_of.Goals as goal

pub returns-in-Err : goal.returns-in-Err
returns-in-Err c = inr (record { why = c.in-Err.refusal; wrong = c.in-Err.ensures.refused; filled = c.fault_numbers.ensures })
