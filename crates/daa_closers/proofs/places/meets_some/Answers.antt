use Rattle.std.proofs.Common.{arith}
use Rattle.daa_closers.proofs.Lists.{none_all}
use Rattle.daa_closers.proofs.places.meets_some.Goals as goal

pub returns : goal.returns
returns c = (
  (λ t. absurd (cc t)),
  (λ x. absurd (none_all c.args.config.now c.args.own.now c.args.candidate c.args.aircraft.now c.args.least c.loop-l.l c.args.greatest
      (omega (arith, c.loop-l-test.false)) c.loop-l.invariant x)),
)
