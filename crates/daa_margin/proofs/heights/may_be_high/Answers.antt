use Rattle.std.proofs.Common.{pos, refl, ◌+ℤ◌, lit<, w64, to_z-of_z}
use Rattle.daa_fixed.proofs.Bounds.{plus, fits, le_test}
use Rattle.daa_margin.proofs.heights.may_be_high.Goals as goal

pub returns : goal.returns
returns c =
    let wh = c.height_then.ensures.size in
    let we = c.height_error.ensures.size in
    let f1 = fits w64 wh (lit< tt) in
    let f2 = fits w64 we (lit< tt) in
    let f3 = fits w64 (plus wh we) (lit< tt) in
    simp to_z-of_z (le_test _ _ _ _ refl (λ i. c.height_then.ensures.value i +ℤ c.height_error.ensures.value i))
