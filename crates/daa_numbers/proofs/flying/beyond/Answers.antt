use Rattle.std.proofs.Common.{◌≡◌, ◌+ℤ◌, w32, w64, to_z-of_z, arith, lit<}
use Rattle.std.proofs.lemmas.Int.{ints}
use Rattle.daa_fixed.proofs.Bounds.{fits, plus, within, as_within}
use Rattle.daa_numbers.specs.Flown.{nearest}
use Rattle.daa_numbers.proofs.flying.beyond.Goals as goal

pub returns : goal.returns
returns c =
    let b = within 60000 c.args.b (omega (arith, ints, c.requires.b.least)) c.requires.b.most in
    let fa = fits w64 c.requires.a (lit< tt) in
    let fb = fits w64 b (lit< tt) in
    let ff = fits w32 c.requires.from (lit< tt) in
    let from : c.from.result ≡ c.args.from = simp to_z-of_z at c.from.ensures in
    let far : c.nearest.result ≡ nearest c.args.a c.args.b = simp to_z-of_z at c.nearest.ensures.value in
    let small = as_within from c.requires.from in
    let sum = plus small c.nearest.ensures.size in
    let fs = fits w64 small (lit< tt) in
    let fn = fits w64 c.nearest.ensures.size (lit< tt) in
    let f64 = fits w64 sum (lit< tt) in
    let f32 = fits w32 sum (lit< tt) in
    simp to_z-of_z (λ i. from i +ℤ far i)
