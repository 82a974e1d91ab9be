-- Where an aircraft is, from where it is now.
use Rattle.std.proofs.Common.{◌≡◌, ◌∙◌, ap, arith, ℕ, ◌+◌, ◌≤◌, ℤ, pos, ◌+ℤ◌, ◌*ℤ◌, ◌∷◌, []}
use Rattle.std.proofs.lemmas.Int.{ints}
use Rattle.daa_fixed.specs.Size.{IsWithin}
use Rattle.daa_fixed.specs.declared.Solid.{Solid}
use Rattle.daa_fixed.specs.Leg.{plus, times}
use Rattle.daa_fixed.proofs.Bounds.{as_within, plus as sum_within, times as product_within}
use Rattle.daa_fixed.proofs.LegSizes.{natural}
use Rattle.daa_fixed.proofs.Ring.{ring, #, ◌⊕◌, ◌⊗◌}
use Rattle.daa_state.specs.declared.word.Traffic.{Traffic}
use Rattle.daa_state.specs.InRange.{IsTrafficInRange}
use Rattle.daa_legs.specs.Relative.{traffic_place, traffic_velocity}
use Rattle.daa_legs.proofs.StateRanges.{traffic_x, traffic_y, traffic_altitude, traffic_east, traffic_north, traffic_climb}

-- after a seconds, and then k more
pub later : (x v : ℤ) (a k : ℕ) → (x +ℤ pos (a + 0) *ℤ v) +ℤ pos k *ℤ v ≡ x +ℤ pos (a + k) *ℤ v
later x v a k =
    let X = # 0 in let A = # 1 in let V = # 2 in let K = # 3 in
    let apart = ring (x ∷ pos (a + 0) ∷ v ∷ pos k ∷ []) ((X ⊕ A ⊗ V) ⊕ K ⊗ V) (X ⊕ (A ⊕ K) ⊗ V) tt in
    let all : pos (a + 0) +ℤ pos k ≡ pos (a + k) = omega (arith, ints) in
    apart ∙ ap (λ (n : ℤ). x +ℤ n *ℤ v) all

-- where it is now
now_within : (x v : ℤ) (a : ℕ) → a ≤ 60 → IsWithin 7200000 x → IsWithin 10000 v → IsWithin 7800000 (x +ℤ pos (a + 0) *ℤ v)
now_within x v a h x_size v_size = sum_within x_size (product_within (natural 60 (a + 0) (omega (arith, h))) v_size)

flat_within : (x : ℤ) → IsWithin 200000 x → IsWithin 7200000 (pos 36 *ℤ x)
flat_within x h = record { size = omega (arith, ints, h.size) }

height_within : (x : ℤ) → IsWithin 60000 x → IsWithin 7200000 (pos 60 *ℤ x)
height_within x h = record { size = omega (arith, ints, h.size) }

module _ (aircraft : Traffic) (t : IsTrafficInRange aircraft) (now : Solid) (is : now ≡ traffic_place aircraft 0) where
  pub east_within : IsWithin 7800000 now.flat.east
  east_within = as_within (ap (λ (p : Solid). p.flat.east) is)
      (now_within (pos 36 *ℤ aircraft.x) aircraft.vx aircraft.age (omega (arith, t.age)) (flat_within aircraft.x (traffic_x t)) (traffic_east t))

  pub north_within : IsWithin 7800000 now.flat.north
  north_within = as_within (ap (λ (p : Solid). p.flat.north) is)
      (now_within (pos 36 *ℤ aircraft.y) aircraft.vy aircraft.age (omega (arith, t.age)) (flat_within aircraft.y (traffic_y t)) (traffic_north t))

  pub up_within : IsWithin 7800000 now.up
  up_within = as_within (ap (λ (p : Solid). p.up) is)
      (now_within (pos 60 *ℤ aircraft.alt) aircraft.vs aircraft.age (omega (arith, t.age)) (height_within aircraft.alt (traffic_altitude t)) (traffic_climb t))

  -- k seconds later
  pub place_later : (k : ℕ) → plus now (times (pos k) (traffic_velocity aircraft)) ≡ traffic_place aircraft k
  place_later k = ap (λ (p : Solid). plus p (times (pos k) (traffic_velocity aircraft))) is ∙ (λ i. record {
    flat = record {
      east = later (pos 36 *ℤ aircraft.x) aircraft.vx aircraft.age k i;
      north = later (pos 36 *ℤ aircraft.y) aircraft.vy aircraft.age k i;
    };
    up = later (pos 60 *ℤ aircraft.alt) aircraft.vs aircraft.age k i;
  })
