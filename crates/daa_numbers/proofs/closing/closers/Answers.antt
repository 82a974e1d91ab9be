use Rattle.std.proofs.Common.{◌≡◌, Some, to_z-of_z}
use Rattle.daa_numbers.specs.Closing.{flight_by}
use Rattle.daa_numbers.proofs.closing.closers.Goals as goal

pub returns-in-None-clause-no_levels : goal.returns-in-None-clause-no_levels
returns-in-None-clause-no_levels c = λ _.
    let flight : flight_by c.args.kind c.args.value ≡ Some c.in-Ok.found.2 = simp (to_z-of_z, c.ranges.kind, c.ranges.value) at c.in-Ok.ensures.flight in
    record {
      sound = c.in-Ok.ensures.asked.sound;
      candidate = c.in-Ok.found.2;
      flight = flight;
      settings = c.in-Ok.found.0;
      accepted = c.in-Ok.ensures.asked.accepted;
      none = c.in-None.ensures.none;
    }
