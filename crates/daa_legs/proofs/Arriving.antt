-- A turn of at least half a turn arrives.
use Rattle.std.proofs.Common.{◌≡◌, ap, ◌∙◌, sym, refl, arith, Bool, true, false, ℤ, pos, negsuc, ◌+ℤ◌, ◌-ℤ◌, ◌≤ℤ◌, ◌<ℤ◌}
use Rattle.std.specs.Prelude.{int_le}
use Rattle.std.specs.Int.{int_min, int_rem_euclid}
use Rattle.std.proofs.lemmas.Int.{ints, int_min_is, by_lt_z}
use Rattle.daa_fixed.specs.Size.{IsFrom}
use Rattle.daa_legs.specs.Turn.{right_angle, turned}
use Rattle.daa_fixed.proofs.Bounds.{le_test}
use Rattle.daa_legs.proofs.ClosedForms.{rem_small}
use Rattle.daa_legs.proofs.Turns.{turned_right, turned_left}

-- one turn back, and one turn on
pub rem_back : (z : ℤ) → IsFrom (negsuc 359) (negsuc 0) z → int_rem_euclid z (pos 360) ≡ z +ℤ pos 360
rem_back (pos a) h = absurd (omega (arith, ints, h.most))
rem_back (negsuc a) h = omega (arith, ints, h.least)

pub rem_on : (z : ℤ) → IsFrom (pos 360) (pos 719) z → int_rem_euclid z (pos 360) ≡ z -ℤ pos 360
rem_on (pos a) h = omega (arith, ints, h.least, h.most)
rem_on (negsuc a) h = absurd (omega (arith, ints, h.least))

module _ (track c most : ℤ) (t : IsFrom (pos 0) (pos 359) track) (d : IsFrom (pos 0) (pos 359) c) (half : pos 180 ≤ℤ most) where
  abbrev right : ℤ
  right = right_angle track c

  ahead : track ≤ℤ c → right ≡ c -ℤ track
  ahead h = rem_small (c -ℤ track) (record { least = omega (arith, ints, h); most = omega (arith, ints, t.least, d.most) })

  behind : c <ℤ track → right ≡ c -ℤ track +ℤ pos 360
  behind h = rem_back (c -ℤ track) (record { least = omega (arith, ints, t.most, d.least); most = omega (arith, ints, h) })

  -- a multiple of the full turn away from c is the track c
  lands : (z : ℤ) → z ≡ c → int_rem_euclid z (pos 360) ≡ c
  lands z e = ap (λ (x : ℤ). int_rem_euclid x (pos 360)) e ∙ rem_small c d

  lands_on : (z : ℤ) → z ≡ c +ℤ pos 360 → int_rem_euclid z (pos 360) ≡ c
  lands_on z e = rem_on z (record { least = omega (arith, ints, e, d.least); most = omega (arith, ints, e, d.most) }) ∙ omega (arith, ints, e)

  lands_back : (z : ℤ) → z ≡ c -ℤ pos 360 → int_rem_euclid z (pos 360) ≡ c
  lands_back z e = rem_back z (record { least = omega (arith, ints, e, d.least); most = omega (arith, ints, e, d.most) }) ∙ omega (arith, ints, e)

  to_the_right : right ≤ℤ pos 180 → int_rem_euclid (track +ℤ int_min most right) (pos 360) ≡ c
  to_the_right h =
      let all : int_min most right ≡ right = omega (arith, ints, int_min_is most right, h, half) in
      by_lt_z c track
      (λ l. lands_on _ (let r = behind l in omega (arith, ints, all, r)))
      (λ g. lands _ (let r = ahead g in omega (arith, ints, all, r)))

  to_the_left : pos 180 <ℤ right → int_rem_euclid (track -ℤ int_min most (pos 360 -ℤ right)) (pos 360) ≡ c
  to_the_left h =
      let all : int_min most (pos 360 -ℤ right) ≡ pos 360 -ℤ right = omega (arith, ints, int_min_is most (pos 360 -ℤ right), h, half) in
      by_lt_z c track
      (λ l. lands _ (let r = behind l in omega (arith, ints, all, r)))
      (λ g. lands_back _ (let r = ahead g in omega (arith, ints, all, r)))

  pub turned-arrives : turned track c most ≡ c
  turned-arrives = go (int_le right (pos 180)) refl
    where
      go : (b : Bool) → int_le right (pos 180) ≡ b → turned track c most ≡ c
      go true e = sym (turned_right track c most e) ∙ to_the_right ((le_test right (pos 180) right (pos 180) refl refl).0 e)
      go false e = sym (turned_left track c most e) ∙ to_the_left (by_lt_z (pos 180) right (λ l. l) (λ g. let t = (le_test right (pos 180) right (pos 180) refl refl).1 g in absurd (cc (t, e))))
