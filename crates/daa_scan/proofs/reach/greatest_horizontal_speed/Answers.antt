use Rattle.std.proofs.Common.{rules, ◌≡◌, ap, subst, ◌∙◌, ℤ, pos, negsuc, ◌+ℤ◌, ◌≤ℤ◌, FitsSigned, w32, w64, to_z-of_z, lit<, arith, unsigned_abs}
use Rattle.std.specs.Int.{int_max}
use Rattle.std.proofs.lemmas.Int.{ints, int_max_is}
use Rattle.daa_fixed.specs.Size.{IsWithin, IsFrom}
use Rattle.daa_fixed.proofs.Bounds.{fits, plus, as_within}
use Rattle.daa_fixed.proofs.LegSizes.{natural}
use Rattle.daa_config.specs.declared.kind.Kind.TheVariants.{GroundSpeed}
use Rattle.daa_config.specs.Candidates.{greatest_of}
use Rattle.daa_scan.specs.Reach.{size_of}
use Rattle.daa_scan.proofs.reach.greatest_horizontal_speed.Goals as goal
use Rattle.daa_scan.proofs.reach.greatest_horizontal_speed.Goals.{After-size-2}

greater : (x y : ℤ) → pos 0 ≤ℤ x → x ≤ℤ pos 10000 → IsFrom (pos 0) (pos 10000) y → IsWithin 10000 (int_max x y)
greater x y h k l = record { size = omega (arith, ints, l.least, l.most, int_max_is x y) }

one : IsWithin 1 (pos 1)
one = record { size = omega arith }

small : (x : ℤ) → (negsuc 9999 ≤ℤ x) × (x ≤ℤ pos 10000) → IsWithin 10000 (pos (unsigned_abs x))
small x h = natural 10000 (unsigned_abs x) (omega (arith, ints, h.0, h.1))

-- the parts, what they are, and how large
record Parts (f x y g vx vy : ℤ) : Type 0 where
  first : f ≡ g
  second : x ≡ size_of vx
  third : y ≡ size_of vy
  first_size : IsWithin 10000 f
  second_size : IsWithin 10000 x
  third_size : IsWithin 10000 y

parts : (c : After-size-2) → Parts c.from.result c.size.result c.size-2.result (int_max c.args.encounter.now.own.now.gs (greatest_of GroundSpeed c.args.encounter.now.config.now))
    c.args.encounter.now.aircraft.now.vx c.args.encounter.now.aircraft.now.vy
parts c =
    let f1 : FitsSigned w32 c.args.encounter.now.own.now.gs = search rules in
    let f2 : FitsSigned w32 c.greatest.result = search rules in
    let f3 : FitsSigned w32 c.max-greatest.result = search rules in
    let f4 : FitsSigned w32 c.args.encounter.now.aircraft.now.vx = search rules in
    let f5 : FitsSigned w32 c.args.encounter.now.aircraft.now.vy = search rules in
    let m : c.max-greatest.result ≡ int_max c.args.encounter.now.own.now.gs c.greatest.result = simp to_z-of_z at c.max-greatest.ensures.value in
    let e : c.from.result ≡ int_max c.args.encounter.now.own.now.gs (greatest_of GroundSpeed c.args.encounter.now.config.now) = (simp to_z-of_z at c.from.ensures) ∙ m ∙ ap
    (int_max c.args.encounter.now.own.now.gs) c.greatest.ensures.value in
    let ex : c.size.result ≡ size_of c.args.encounter.now.aircraft.now.vx = simp to_z-of_z at c.size.ensures in
    let ey : c.size-2.result ≡ size_of c.args.encounter.now.aircraft.now.vy = simp to_z-of_z at c.size-2.ensures in
    record {
      first = e;
      second = ex;
      third = ey;
      first_size = as_within e (greater _ _ c.args.encounter.now.known.own_in_range.gs.0 c.args.encounter.now.known.own_in_range.gs.1
          (subst (λ (z : ℤ). IsFrom (pos 0) (pos 10000) z) c.greatest.ensures.value c.greatest.ensures.in_range));
      second_size = as_within ex (small _ c.args.encounter.now.known.aircraft_in_range.vx);
      third_size = as_within ey (small _ c.args.encounter.now.known.aircraft_in_range.vy);
    }

-- the sums of the parts, one after the other, fit
record AreFitting (f x y : ℤ) : Type 0 where
  first : FitsSigned w64 f
  second : FitsSigned w64 x
  third : FitsSigned w64 y
  rounded : FitsSigned w64 (f +ℤ pos 1)
  with_second : FitsSigned w64 (f +ℤ pos 1 +ℤ x)
  whole : FitsSigned w64 (f +ℤ pos 1 +ℤ x +ℤ y)
  size : IsWithin 30001 (f +ℤ pos 1 +ℤ x +ℤ y)

fitting : (c : After-size-2) → AreFitting c.from.result c.size.result c.size-2.result
fitting c =
    let p = parts c in
    let w = plus (plus (plus p.first_size one) p.second_size) p.third_size in
    record {
      first = fits w64 p.first_size (lit< tt);
      second = fits w64 p.second_size (lit< tt);
      third = fits w64 p.third_size (lit< tt);
      rounded = fits w64 (plus p.first_size one) (lit< tt);
      with_second = fits w64 (plus (plus p.first_size one) p.second_size) (lit< tt);
      whole = fits w64 w (lit< tt);
      size = w;
    }

pub overflow_add-result-3 : goal.overflow_add-result-3
overflow_add-result-3 c =
    let t = fitting c in
    simp (to_z-of_z t.first, to_z-of_z t.second, to_z-of_z t.third, to_z-of_z t.rounded, to_z-of_z t.with_second) t.whole

pub returns-clause-value : goal.returns-clause-value
returns-clause-value c =
    let p = parts c in
    let t = fitting c in
    simp (to_z-of_z t.first, to_z-of_z t.second, to_z-of_z t.third, to_z-of_z t.rounded, to_z-of_z t.with_second, to_z-of_z t.whole) (λ i. p.first i +ℤ pos 1 +ℤ p.second i +ℤ p.third i)

pub returns-clause-size : goal.returns-clause-size
returns-clause-size c =
    let t = fitting c in
    simp (to_z-of_z t.first, to_z-of_z t.second, to_z-of_z t.third, to_z-of_z t.rounded, to_z-of_z t.with_second, to_z-of_z t.whole) (record { size = omega (arith, t.size.size) })
