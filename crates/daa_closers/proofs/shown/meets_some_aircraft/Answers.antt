use Rattle.std.proofs.Common.{arith}
use Rattle.daa_closers.proofs.Lists.{met_all}
use Rattle.daa_closers.proofs.shown.meets_some_aircraft.Goals as goal

pub returns : goal.returns
returns c = (
  (λ t. absurd (cc t)),
  (λ x. absurd (met_all c.args.config.now c.args.picture.now c.args.candidate c.args.l c.loop-place.place
      (omega (arith, c.loop-place-test.false, c.len-place-end.ensures.value)) c.loop-place.invariant x)),
)
