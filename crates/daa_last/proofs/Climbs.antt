-- A way to an altitude rises alike for as many whole seconds as fit into it.
use Rattle.std.proofs.Common.{[], ◌∷◌, ◌≡◌, ◌⊎◌, inl, inr, ℕ, ◌+◌, ◌<◌, ◌≤◌, ap, sym, ◌∙◌, arith, ℤ, pos, ◌+ℤ◌, ◌-ℤ◌, ◌*ℤ◌, ◌≤ℤ◌, unsigned_abs}
use Rattle.std.proofs.lemmas.Int.{ints, by_lt_z}
use Rattle.daa_fixed.proofs.Ring.{ring, #, ◌⊖◌, ◌⊗◌}
use Rattle.daa_fixed.proofs.Integers.{mul_le}
use Rattle.daa_fixed.specs.Toward.{toward_of}
use Rattle.daa_legs.proofs.CandidateCases.{next_product, product_nonneg}
use Rattle.daa_legs.proofs.LeadingFlights.{toward_short, toward_short_down}

none : (h v : ℤ) → h +ℤ pos 0 *ℤ v ≡ h
none h v = omega (arith, ints)

negative : (j r : ℤ) → j *ℤ (pos 0 -ℤ r) ≡ pos 0 -ℤ j *ℤ r
negative j r = let J = # 0 in let R = # 1 in let Z = # 2 in
    ap (λ (z : ℤ). z) (ring (j ∷ r ∷ pos 0 ∷ []) (J ⊗ (Z ⊖ R)) (J ⊗ Z ⊖ J ⊗ R) tt) ∙ away (j *ℤ pos 0) (j *ℤ r) (zeroed j)
  where
    zeroed : (j : ℤ) → j *ℤ pos 0 ≡ pos 0
    zeroed j = omega (arith, ints)

    away : (z w : ℤ) → z ≡ pos 0 → z -ℤ w ≡ pos 0 -ℤ w
    away z w e = omega (arith, ints, e)

module _ (h y r v : ℤ) (r0 : pos 0 ≤ℤ r) (is : v ≡ toward_of h y r -ℤ h) (n j : ℕ) (lt : j < n) where
  at_once : n ≤ 1 → toward_of (h +ℤ pos j *ℤ v) y r -ℤ (h +ℤ pos j *ℤ v) ≡ v
  at_once few =
      let first : j ≡ 0 = omega (arith, lt, few) in
      let here : h +ℤ pos j *ℤ v ≡ h = ap (λ (i : ℕ). h +ℤ pos i *ℤ v) first ∙ none h v in
      ap (λ (z : ℤ). toward_of z y r -ℤ z) here ∙ sym is

  module _ (fit : (pos n *ℤ r) ≤ℤ pos (unsigned_abs (y -ℤ h))) where
    flown : ℤ
    flown = pos j *ℤ r

    flown0 : pos 0 ≤ℤ (pos j *ℤ r)
    flown0 = product_nonneg j r r0

    left : (pos j *ℤ r +ℤ r) ≤ℤ pos (unsigned_abs (y -ℤ h))
    left =
        let m : (pos (j + 1) *ℤ r) ≤ℤ (pos n *ℤ r) = mul_le (pos (j + 1)) (pos n) r r0 (omega (arith, ints, lt)) in
        let e = next_product j r in
        omega (arith, ints, m, e, fit)

    up : h ≤ℤ y → toward_of (h +ℤ pos j *ℤ v) y r -ℤ (h +ℤ pos j *ℤ v) ≡ v
    up le =
        let l = left in
        let f = flown0 in
        let one : toward_of h y r ≡ h +ℤ r = toward_short h y r r0 (room (pos j *ℤ r) f l) in
        let rate : v ≡ r = is ∙ ap (λ (z : ℤ). z -ℤ h) one ∙ back h r in
        let there : toward_of (h +ℤ pos j *ℤ r) y r ≡ (h +ℤ pos j *ℤ r) +ℤ r = toward_short (h +ℤ pos j *ℤ r) y r r0 (later (pos j *ℤ r) l) in
        ap (λ (w : ℤ). toward_of (h +ℤ pos j *ℤ w) y r -ℤ (h +ℤ pos j *ℤ w)) rate
        ∙ ap (λ (z : ℤ). z -ℤ (h +ℤ pos j *ℤ r)) there ∙ back (h +ℤ pos j *ℤ r) r ∙ sym rate
      where
        room : (p : ℤ) → pos 0 ≤ℤ p → (p +ℤ r) ≤ℤ pos (unsigned_abs (y -ℤ h)) → r ≤ℤ (y -ℤ h)
        room p f l = omega (arith, ints, f, l, le)

        later : (p : ℤ) → (p +ℤ r) ≤ℤ pos (unsigned_abs (y -ℤ h)) → r ≤ℤ (y -ℤ (h +ℤ p))
        later p l = omega (arith, ints, l, le)

        back : (x z : ℤ) → (x +ℤ z) -ℤ x ≡ z
        back x z = omega (arith, ints)

    down : y ≤ℤ h → toward_of (h +ℤ pos j *ℤ v) y r -ℤ (h +ℤ pos j *ℤ v) ≡ v
    down le =
        let l = left in
        let f = flown0 in
        let one : toward_of h y r ≡ h -ℤ r = toward_short_down h y r r0 (room (pos j *ℤ r) f l) in
        let rate : v ≡ pos 0 -ℤ r = is ∙ ap (λ (z : ℤ). z -ℤ h) one ∙ back h r in
        let sunk : pos j *ℤ v ≡ pos 0 -ℤ pos j *ℤ r = ap (λ (z : ℤ). pos j *ℤ z) rate ∙ negative (pos j) r in
        let there : toward_of (h +ℤ (pos 0 -ℤ pos j *ℤ r)) y r ≡ (h +ℤ (pos 0 -ℤ pos j *ℤ r)) -ℤ r =
        toward_short_down (h +ℤ (pos 0 -ℤ pos j *ℤ r)) y r r0 (later (pos j *ℤ r) l) in
        ap (λ (w : ℤ). toward_of (h +ℤ w) y r -ℤ (h +ℤ w)) sunk
        ∙ ap (λ (z : ℤ). z -ℤ (h +ℤ (pos 0 -ℤ pos j *ℤ r))) there ∙ back (h +ℤ (pos 0 -ℤ pos j *ℤ r)) r ∙ sym rate
      where
        room : (p : ℤ) → pos 0 ≤ℤ p → (p +ℤ r) ≤ℤ pos (unsigned_abs (y -ℤ h)) → r ≤ℤ (h -ℤ y)
        room p f l = omega (arith, ints, f, l, le)

        later : (p : ℤ) → (p +ℤ r) ≤ℤ pos (unsigned_abs (y -ℤ h)) → r ≤ℤ ((h +ℤ (pos 0 -ℤ p)) -ℤ y)
        later p l = omega (arith, ints, l, le)

        back : (x z : ℤ) → (x -ℤ z) -ℤ x ≡ pos 0 -ℤ z
        back x z = omega (arith, ints)

    long : toward_of (h +ℤ pos j *ℤ v) y r -ℤ (h +ℤ pos j *ℤ v) ≡ v
    long = by_lt_z h y (λ l. up (omega (arith, ints, l))) (λ l. down l)

  pub steady : (n ≤ 1) ⊎ ((pos n *ℤ r) ≤ℤ pos (unsigned_abs (y -ℤ h))) → toward_of (h +ℤ pos j *ℤ v) y r -ℤ (h +ℤ pos j *ℤ v) ≡ v
  steady (inl few) = at_once few
  steady (inr fit) = long fit
