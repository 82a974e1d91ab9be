use Rattle.std.proofs.Common.{rules, ◌≡◌, FitsSigned, w32, to_z-of_z, arith}
use Rattle.daa_heading.specs.Heading.{velocity_of}
use Rattle.daa_legs.proofs.TrunkLemmas.{first_place}
use Rattle.daa_legs.proofs.flight.Flight.begin.Goals as goal

pub invariant_of-result : goal.invariant_of-result
invariant_of-result c =
    let fg : FitsSigned w32 c.args.own.now.gs = search rules in
    let ft : FitsSigned w32 c.args.own.now.trk = search rules in
    let present : c.velocity.result ≡ velocity_of c.args.own.now.gs c.args.own.now.trk = simp to_z-of_z at c.velocity.ensures in
    record {
      in_range = record { own = c.requires.own; rates = c.rates.ensures.in_range; candidate = c.requires.candidate; taken = omega arith };
      at = first_place c.args.own.now c.rates.result c.args.candidate c.place_now.result c.place_now.ensures;
      keeps = present;
    }
