use Rattle.std.proofs.Common.{refl, sym}
use Rattle.daa_legs.specs.OwnLeg.{own_place}
use Rattle.daa_legs.proofs.Places.{place-start}
use Rattle.daa_legs.proofs.ClosedForms.{track-first, ground_speed-first, vertical_speed-first, hold-velocity}
use Rattle.daa_legs.proofs.laws.flights_begin_as_now.Goals as goal

pub returns : goal.returns
returns c = record {
  place = λ own rates candidate. sym (place-start own rates candidate (own_place own) refl refl refl);
  track = λ own rates candidate o. track-first own rates candidate o;
  ground_speed = λ own rates candidate. ground_speed-first own rates candidate;
  vertical_speed = λ own rates w. vertical_speed-first own rates w;
  hold = λ own rates k. hold-velocity own rates k;
}
