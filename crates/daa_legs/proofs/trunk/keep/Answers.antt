use Rattle.std.proofs.Common.{refl, arith}
use Rattle.daa_legs.proofs.TrunkLemmas.{kept_more, leg_kept, place_after, place_small, velocity_small}
use Rattle.daa_legs.proofs.trunk.keep.Goals as goal

pub sum-requires-clause-x : goal.sum-requires-clause-x
sum-requires-clause-x c = place_small c.args.own.now c.args.rates.now c.args.candidate c.requires.own c.requires.rates c.requires.candidate c.args.k c.args.place.now
    c.args.velocity.now (omega (arith, c.requires.k)) c.requires.place

pub sum-requires-clause-y : goal.sum-requires-clause-y
sum-requires-clause-y c = velocity_small c.args.own.now c.args.rates.now c.args.candidate c.requires.own c.requires.rates c.requires.candidate c.args.k c.args.place.now
    c.args.velocity.now c.args.rates.now refl c.requires.velocity

pub returns : goal.returns
returns c =
    let leg = leg_kept c.args.own.now c.args.rates.now c.args.candidate c.args.rates.now c.args.k c.args.place.now c.args.velocity.now refl c.requires.place c.requires.velocity in
    record {
      kept = kept_more c.args.own.now c.args.rates.now c.args.candidate c.args.k c.args.legs.now (record { place = c.args.place.now; velocity = c.args.velocity.now }) c.requires.k c.requires.kept leg;
      place = place_after c.args.own.now c.args.rates.now c.args.candidate c.args.k c.args.place.now c.args.velocity.now c.sum.result leg c.sum.ensures;
    }
