use Rattle.std.proofs.Common.{◌≡◌, ◌∙◌, ◌+◌, ap, sym, arith}
use Rattle.daa_legs.specs.FlightState.{FlightState}
use Rattle.daa_legs.proofs.RunLemmas.{running_start, running_next}
use Rattle.daa_legs.proofs.flight.Flight.next_run.Goals as goal

pub loop-secs-init : goal.loop-secs-init
loop-secs-init c = running_start c.args.self.now c.next_leg-first.result c.next_leg-first.new.self c.next_leg-first.ensures.taken c.next_leg-first.ensures.leg c.next_leg-first.ensures.in_range

pub loop-secs-preserved : goal.loop-secs-preserved
loop-secs-preserved c = running_next c.args.self.now c.next_leg-first.result c.loop-secs.self c.advance.new.self c.loop-secs.secs c.loop-secs.invariant c.advance.ensures
    (sym c.velocity_ahead.ensures.value ∙ c.are_same.ensures.0 c.if-not-are_same.false)

pub velocity_ahead-requires : goal.velocity_ahead-requires
velocity_ahead-requires c = let e : c.loop-secs.self.taken ≡ c.args.self.now.taken + c.loop-secs.secs = ap (λ (f : FlightState). f.taken) c.loop-secs.invariant.at in
    omega (arith, e, c.loop-secs-test.true, c.requires.left)
