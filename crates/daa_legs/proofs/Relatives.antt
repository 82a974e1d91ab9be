-- Relative legs are in range.
use Rattle.std.proofs.Common.{ℕ, ◌+◌, ◌*◌, ◌<◌, ◌≤◌, arith, ℤ, pos, ◌+ℤ◌, ◌-ℤ◌, ◌*ℤ◌, unsigned_abs}
use Rattle.std.proofs.lemmas.Int.{ints}
use Rattle.daa_fixed.specs.Size.{IsWithin}
use Rattle.daa_fixed.specs.Leg.{IsLegInRange}
use Rattle.daa_fixed.proofs.Bounds.{times}
use Rattle.daa_fixed.proofs.LegSizes.{natural}
use Rattle.daa_legs.proofs.StateRanges.{traffic_x, traffic_y, traffic_altitude, traffic_east, traffic_north, traffic_climb}
use Rattle.daa_state.specs.declared.word.Traffic.{Traffic}
use Rattle.daa_state.specs.InRange.{IsTrafficInRange}
use Rattle.daa_legs.specs.declared.own_leg.OwnLeg.{OwnLeg}
use Rattle.daa_legs.specs.OwnLeg.{IsOwnLegInRange}
use Rattle.daa_legs.specs.Relative.{relative_for}

-- how far the other gets
away : (k : ℕ) (v : ℤ) → k ≤ 240 → IsWithin 10000 v → IsWithin (240 * 10000) (pos k *ℤ v)
away k v h w = times (natural 240 k h) w

apart : (p x m : ℤ) → unsigned_abs p < 20000000 → unsigned_abs x ≤ 7200000 → IsWithin 2400000 m → unsigned_abs (p -ℤ (x +ℤ m)) < 40000000
apart p x m h k w = omega (arith, ints, w.size)

flat_size : (x : ℤ) → IsWithin 200000 x → unsigned_abs (pos 36 *ℤ x) ≤ 7200000
flat_size x h = omega (arith, ints, h.size)

up_size : (x : ℤ) → IsWithin 60000 x → unsigned_abs (pos 60 *ℤ x) ≤ 7200000
up_size x h = omega (arith, ints, h.size)

rate : (p v : ℤ) → unsigned_abs p < 20000 → IsWithin 10000 v → unsigned_abs (p -ℤ v) < 40000
rate p v h w = omega (arith, ints, w.size)

pub relative_for-in_range : (secs : ℕ) (leg : OwnLeg) (aircraft : Traffic) (k : ℕ) → IsOwnLegInRange leg → IsTrafficInRange aircraft → k ≤ 180 → 1 ≤ secs
    → secs ≤ 180 → IsLegInRange (relative_for secs leg aircraft k)
unfolding relative_for
relative_for-in_range secs leg aircraft k l t h some short =
    let far : aircraft.age + k ≤ 240 = omega (arith, h, t.age) in
    record {
      east = apart leg.place.flat.east _ _ l.place.east (flat_size aircraft.x (traffic_x t)) (away (aircraft.age + k) aircraft.vx far (traffic_east t));
      north = apart leg.place.flat.north _ _ l.place.north (flat_size aircraft.y (traffic_y t)) (away (aircraft.age + k) aircraft.vy far (traffic_north t));
      up = apart leg.place.up _ _ l.place.up (up_size aircraft.alt (traffic_altitude t)) (away (aircraft.age + k) aircraft.vs far (traffic_climb t));
      east_speed = rate leg.velocity.flat.east aircraft.vx l.velocity.east (traffic_east t);
      north_speed = rate leg.velocity.flat.north aircraft.vy l.velocity.north (traffic_north t);
      up_speed = rate leg.velocity.up aircraft.vs l.velocity.up (traffic_climb t);
      some = some;
      short = short;
    }
