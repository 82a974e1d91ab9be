-- The ownship as an aircraft sees it, second by second. The aircraft flies straight on.
use Rattle.std.specs.Prelude.{ℕ, pos, ◌*ℤ◌, ◌+◌}
use Rattle.daa_fixed.specs.declared.Solid.{Solid}
use Rattle.daa_fixed.specs.declared.Leg.{Leg}
use Rattle.daa_fixed.specs.Leg.{plus, minus, times}
use Rattle.daa_state.specs.declared.word.Traffic.{Traffic}
use Rattle.daa_legs.specs.declared.own_leg.OwnLeg.{OwnLeg}

-- the aircraft's velocity
abbrev pub traffic_velocity : Traffic → Solid
traffic_velocity aircraft = record { flat = record { east = aircraft.vx; north = aircraft.vy }; up = aircraft.vs }

-- where the aircraft was reported, in units
abbrev pub reported_place : Traffic → Solid
reported_place aircraft = record { flat = record { east = pos 36 *ℤ aircraft.x; north = pos 36 *ℤ aircraft.y }; up = pos 60 *ℤ aircraft.alt }

-- where it is at second k, counted from now: it has flown straight on since its report
abbrev pub traffic_place : Traffic → ℕ → Solid
traffic_place aircraft k = plus (reported_place aircraft) (times (pos (aircraft.age + k)) (traffic_velocity aircraft))

-- ownship minus aircraft, for `secs` seconds from second k on
unfoldable pub relative_for : ℕ → OwnLeg → Traffic → ℕ → Leg
relative_for secs leg aircraft k = record {
  place = minus leg.place (traffic_place aircraft k);
  velocity = minus leg.velocity (traffic_velocity aircraft);
  secs = secs;
}
