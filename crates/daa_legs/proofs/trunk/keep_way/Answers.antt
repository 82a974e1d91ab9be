use Rattle.daa_legs.proofs.TrunkLemmas.{kept_none, first_place}
use Rattle.daa_legs.proofs.trunk.keep_way.Goals as goal

pub loop-k-init : goal.loop-k-init
loop-k-init c = record {
  at = first_place c.args.own.now c.args.rates.now c.args.candidate c.place_now-place.result c.place_now-place.ensures;
  kept = kept_none c.args.own.now c.args.rates.now c.args.candidate c.args.legs.now c.requires.room;
}
