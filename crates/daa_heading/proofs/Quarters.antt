-- Sine and cosine, quarter by quarter.
use Rattle.std.proofs.Common.{◌≡◌, sym, subst, ap, ◌∙◌, refl, arith, Bool, true, false, ℤ, pos, ◌+ℤ◌, ◌-ℤ◌, ◌≤ℤ◌, ◌<ℤ◌, unsigned_abs}
use Rattle.std.specs.Prelude.{int_le}
use Rattle.std.proofs.lemmas.Int.{ints, by_lt_z}
use Rattle.daa_fixed.proofs.Bounds.{le_test}
use Rattle.daa_heading.specs.Heading.{sines, sine_at, sine_of, cosine_of}
use Rattle.daa_heading.proofs.Rounds.{within_circle, below_circle}
use Rattle.daa_heading.proofs.Sines.{upper_first, upper_second, sine_first, sine_second}

pub le_true : (x y : ℤ) → x ≤ℤ y → int_le x y ≡ true
le_true x y h = (le_test x y x y refl refl).1 h

pub le_false : (x y : ℤ) → y <ℤ x → int_le x y ≡ false
le_false x y h = go (int_le x y) refl
  where
    go : (b : Bool) → int_le x y ≡ b → int_le x y ≡ false
    go true e = let l = (le_test x y x y refl refl).0 e in absurd (omega (arith, ints, h, l))
    go false e = e

-- ---- the sine
pub sine_1 : (d : ℤ) → d ≤ℤ pos 90 → sine_at d ≡ sine_of d
sine_1 d h = upper_first d (le_true d (pos 90) h) ∙ sine_first d (le_true d (pos 180) (omega (arith, ints, h)))

pub sine_2 : (d : ℤ) → pos 90 <ℤ d → d ≤ℤ pos 180 → sine_at (pos 180 -ℤ d) ≡ sine_of d
sine_2 d g h = upper_second d (le_false d (pos 90) g) ∙ sine_first d (le_true d (pos 180) h)

pub sine_3 : (d : ℤ) → pos 180 <ℤ d → d ≤ℤ pos 270 → pos 0 -ℤ sine_at (d -ℤ pos 180) ≡ sine_of d
sine_3 d g h = ap (λ (z : ℤ). pos 0 -ℤ z) (upper_first (d -ℤ pos 180) (le_true (d -ℤ pos 180) (pos 90) (omega (arith, ints, h)))) ∙ sine_second d (le_false d (pos 180) g)

pub sine_4 : (d : ℤ) → pos 270 <ℤ d → pos 0 -ℤ sine_at (pos 360 -ℤ d) ≡ sine_of d
sine_4 d g =
    let over : pos 90 <ℤ (d -ℤ pos 180) = omega (arith, ints, g) in
    let e : pos 180 -ℤ (d -ℤ pos 180) ≡ pos 360 -ℤ d = omega (arith, ints) in
    ap (λ (z : ℤ). pos 0 -ℤ sine_at z) (sym e)
    ∙ ap (λ (z : ℤ). pos 0 -ℤ z) (upper_second (d -ℤ pos 180) (le_false (d -ℤ pos 180) (pos 90) over))
    ∙ sine_second d (le_false d (pos 180) (omega (arith, ints, g)))

-- ---- the cosine: the sine of the angle to 90 degrees
near : (d : ℤ) → pos 0 ≤ℤ d → d ≤ℤ pos 90 → sine_of (pos 90 -ℤ d) ≡ cosine_of d
unfolding cosine_of
near d g h = ap sine_of (sym (within_circle (pos 90 -ℤ d) (omega (arith, ints, h)) (omega (arith, ints, g))))

far : (d : ℤ) → pos 90 <ℤ d → d <ℤ pos 360 → sine_of (pos 450 -ℤ d) ≡ cosine_of d
unfolding cosine_of
far d g h =
    let round : (pos 90 -ℤ d) +ℤ pos 360 ≡ pos (unsigned_abs (pos 450 -ℤ d)) = omega (arith, ints, h) in
    let on : pos 450 -ℤ d ≡ (pos 90 -ℤ d) +ℤ pos 360 = omega (arith, ints) in
    ap sine_of (on ∙ sym (below_circle (pos 90 -ℤ d) (unsigned_abs (pos 450 -ℤ d)) round (omega (arith, ints, g, h))))

zero_sine : pos 0 -ℤ sine_at (pos 0) ≡ sine_at (pos 0)
unfolding sine_at sines
zero_sine = refl

pub cosine_1 : (d : ℤ) → pos 0 ≤ℤ d → d ≤ℤ pos 90 → sine_at (pos 90 -ℤ d) ≡ cosine_of d
cosine_1 d g h = sine_1 (pos 90 -ℤ d) (omega (arith, ints, g)) ∙ near d g h

pub cosine_2 : (d : ℤ) → pos 90 <ℤ d → d ≤ℤ pos 180 → pos 0 -ℤ sine_at (d -ℤ pos 90) ≡ cosine_of d
cosine_2 d g h = by_lt_z d (pos 180)
    (λ l. let e : pos 360 -ℤ (pos 450 -ℤ d) ≡ d -ℤ pos 90 = omega (arith, ints) in
    ap (λ (z : ℤ). pos 0 -ℤ sine_at z) (sym e) ∙ sine_4 (pos 450 -ℤ d) (omega (arith, ints, l)) ∙ far d g (omega (arith, ints, l)))
    (λ m. let e : pos 180 ≡ d = omega (arith, ints, h, m) in
    subst (λ (z : ℤ). pos 0 -ℤ sine_at (z -ℤ pos 90) ≡ cosine_of z) e (sine_3 (pos 270) (omega (arith, ints)) (omega (arith, ints)) ∙ far (pos 180) (omega (arith, ints)) (omega (arith, ints))))

pub cosine_3 : (d : ℤ) → pos 180 <ℤ d → d ≤ℤ pos 270 → pos 0 -ℤ sine_at (pos 270 -ℤ d) ≡ cosine_of d
cosine_3 d g h = by_lt_z d (pos 270)
    (λ l. let e : (pos 450 -ℤ d) -ℤ pos 180 ≡ pos 270 -ℤ d = omega (arith, ints) in
    ap (λ (z : ℤ). pos 0 -ℤ sine_at z) (sym e) ∙ sine_3 (pos 450 -ℤ d) (omega (arith, ints, l)) (omega (arith, ints, g)) ∙ far d (omega (arith, ints, g)) (omega (arith, ints, l)))
    (λ m. let e : pos 270 ≡ d = omega (arith, ints, h, m) in
    subst (λ (z : ℤ). pos 0 -ℤ sine_at (pos 270 -ℤ z) ≡ cosine_of z) e (zero_sine ∙ sine_2 (pos 180) (omega (arith, ints)) (omega (arith, ints))
    ∙ far (pos 270) (omega (arith, ints)) (omega (arith, ints))))

pub cosine_4 : (d : ℤ) → pos 270 <ℤ d → d <ℤ pos 360 → sine_at (d -ℤ pos 270) ≡ cosine_of d
cosine_4 d g h =
    let e : pos 180 -ℤ (pos 450 -ℤ d) ≡ d -ℤ pos 270 = omega (arith, ints) in
    ap sine_at (sym e) ∙ sine_2 (pos 450 -ℤ d) (omega (arith, ints, h)) (omega (arith, ints, g)) ∙ far d (omega (arith, ints, g)) h

-- ---- what a test says
pub yes_le : (x y : ℤ) → int_le x y ≡ true → x ≤ℤ y
yes_le x y e = (le_test x y x y refl refl).0 e

pub no_le : (x y : ℤ) → int_le x y ≡ false → y <ℤ x
no_le x y e = by_lt_z y x (λ l. l) (λ g. let t = le_true x y g in absurd (cc (t, e)))
