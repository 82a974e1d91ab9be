use Rattle.std.proofs.Common.{sym, subst}
use Rattle.daa_scan.specs.Trunks.{AreFlightsOf}
use Rattle.daa_scan.specs.Inside.Trunks.{Shared}
use Rattle.daa_scan.proofs.scene.Scene.of.Goals as goal

pub invariant_of-result : goal.invariant_of-result
invariant_of-result c = record {
  accepted = c.groups_of.ensures.accepted;
  picture = c.requires.picture;
  counted = c.groups_of.ensures.value;
  found = c.places_near.ensures;
  kept = subst (λ (t : Shared). AreFlightsOf c.args.config.now c.args.picture.now t.needs t.trunks t.branches) (sym c.of.ensures) c.requires.flights;
  present = c.present_leg-hold.ensures.value;
  in_range = c.present_leg-hold.ensures.in_range;
}
