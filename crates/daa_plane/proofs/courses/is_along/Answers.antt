use Rattle.std.proofs.Common.{◌≡◌, ◌∙◌, ap, sym, Bool, true, false, ℤ, pos, ◌*ℤ◌, unsigned_abs, w64, to_z-of_z, lit<}
use Rattle.std.specs.Prelude.{◌&&◌, int_lt, int_le}
use Rattle.daa_fixed.specs.Size.{IsWithin}
use Rattle.daa_fixed.proofs.Bounds.{fits, as_within, times}
use Rattle.daa_plane.specs.Courses.{along, across, is_along}
use Rattle.daa_plane.proofs.Sizes.{literal}
use Rattle.daa_plane.proofs.courses.is_along.Goals as goal

pub returns-then-along-gt0 : goal.returns-then-along-gt0
unfolding is_along
returns-then-along-gt0 c =
    let own = c.args.own.now in
    let d = c.args.direction.now in
    let fa = fits w64 c.along-along.ensures.size (lit< tt) in
    let fx = fits w64 c.across.ensures.size (lit< tt) in
    let ahead : c.along-along.result ≡ along own d = c.along-along.ensures.value in
    let right : c.across.result ≡ across own d = c.across.ensures.value in
    let is : c.abs.result ≡ pos (unsigned_abs c.across.result) = simp to_z-of_z at c.abs.ensures.value in
    let size : IsWithin 200000000000 (pos (unsigned_abs c.across.result)) = record { size = c.across.ensures.size.size } in
    let s = as_within is size in
    let fb = fits w64 s (lit< tt) in
    let fp = fits w64 (times (literal 114) s) (lit< tt) in
    let whole = is ∙ ap (λ (z : ℤ). pos (unsigned_abs z)) right in
    let test : int_lt (pos 0) c.along-along.result ≡ true = simp to_z-of_z at c.if-along-gt0.true in
    let some : int_lt (pos 0) (along own d) ≡ true = ap (λ (z : ℤ). int_lt (pos 0) z) (sym ahead) ∙ test in
    let second = int_le (pos 114 *ℤ pos (unsigned_abs (across own d))) (along own d) in
    let last : int_le (pos 114 *ℤ c.abs.result) c.along-along.result ≡ second = λ i. int_le (pos 114 *ℤ whole i) (ahead i) in
    simp to_z-of_z (last ∙ ap (λ (b : Bool). b && second) (sym some))

pub returns-else-along-gt0 : goal.returns-else-along-gt0
unfolding is_along
returns-else-along-gt0 c =
    let own = c.args.own.now in
    let d = c.args.direction.now in
    let fa = fits w64 c.along-along.ensures.size (lit< tt) in
    let ahead : c.along-along.result ≡ along own d = c.along-along.ensures.value in
    let test : int_lt (pos 0) c.along-along.result ≡ false = simp to_z-of_z at c.if-along-gt0.false in
    let none : int_lt (pos 0) (along own d) ≡ false = ap (λ (z : ℤ). int_lt (pos 0) z) (sym ahead) ∙ test in
    let second = int_le (pos 114 *ℤ pos (unsigned_abs (across own d))) (along own d) in
    simp to_z-of_z (test ∙ sym (ap (λ (b : Bool). b && second) none))
