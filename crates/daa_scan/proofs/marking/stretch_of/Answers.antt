use Rattle.std.proofs.Common.{arith}
use Rattle.daa_scan.proofs.marking.stretch_of.Goals as goal

pub returns : goal.returns
returns c own aircraft = record {
  from = c.start-from.ensures.value;
  upto = omega (arith, c.start-from.ensures.value, c.count.ensures.value);
  upper = λ level at z j b v. omega (arith, b);
  lower = λ level at z j b v. omega (arith, b);
}
