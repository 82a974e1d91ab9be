-- The ranges of an ownship and of an aircraft, as the sizes that sums and products need.
use Rattle.std.proofs.Common.{arith, pos, neg_ℤ}
use Rattle.std.proofs.lemmas.Int.{ints}
use Rattle.daa_fixed.specs.Size.{IsFrom, IsWithin}
use Rattle.daa_state.specs.declared.word.Own.{Own}
use Rattle.daa_state.specs.declared.word.Traffic.{Traffic}
use Rattle.daa_state.specs.InRange.{IsOwnInRange, IsTrafficInRange}

module _ {own : Own} (o : IsOwnInRange own) where
  pub own_x : IsFrom (neg_ℤ (pos 200000)) (pos 200000) own.x
  own_x = record { least = o.x.0; most = o.x.1 }

  pub own_y : IsFrom (neg_ℤ (pos 200000)) (pos 200000) own.y
  own_y = record { least = o.y.0; most = o.y.1 }

  pub own_altitude : IsFrom (neg_ℤ (pos 2000)) (pos 60000) own.alt
  own_altitude = record { least = o.alt.0; most = o.alt.1 }

  pub own_track : IsFrom (pos 0) (pos 359) own.trk
  own_track = record { least = o.trk.0; most = o.trk.1 }

  pub own_speed : IsFrom (pos 0) (pos 10000) own.gs
  own_speed = record { least = o.gs.0; most = o.gs.1 }

  pub own_climb : IsFrom (neg_ℤ (pos 10000)) (pos 10000) own.vs
  own_climb = record { least = o.vs.0; most = o.vs.1 }

module _ {aircraft : Traffic} (t : IsTrafficInRange aircraft) where
  pub traffic_x : IsWithin 200000 aircraft.x
  traffic_x = record { size = omega (arith, ints, t.x.0, t.x.1) }

  pub traffic_y : IsWithin 200000 aircraft.y
  traffic_y = record { size = omega (arith, ints, t.y.0, t.y.1) }

  pub traffic_altitude : IsWithin 60000 aircraft.alt
  traffic_altitude = record { size = omega (arith, ints, t.alt.0, t.alt.1) }

  pub traffic_east : IsWithin 10000 aircraft.vx
  traffic_east = record { size = omega (arith, ints, t.vx.0, t.vx.1) }

  pub traffic_north : IsWithin 10000 aircraft.vy
  traffic_north = record { size = omega (arith, ints, t.vy.0, t.vy.1) }

  pub traffic_climb : IsWithin 10000 aircraft.vs
  traffic_climb = record { size = omega (arith, ints, t.vs.0, t.vs.1) }
