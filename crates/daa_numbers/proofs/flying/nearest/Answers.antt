use Rattle.std.proofs.Common.{◌≡◌, pos, w64, to_z-of_z, arith, lit<}
use Rattle.std.proofs.lemmas.Int.{ints}
use Rattle.daa_fixed.specs.Size.{IsWithin}
use Rattle.daa_fixed.proofs.Bounds.{fits, times, plus, within, as_within}
use Rattle.daa_numbers.specs.Flown.{nearest}
use Rattle.daa_numbers.proofs.FlownLemmas.{euclid_within}
use Rattle.daa_numbers.proofs.flying.nearest.Goals as goal

pub returns : goal.returns
returns c =
    let two : IsWithin 2 (pos 2) = record { size = omega arith } in
    let b = within 60000 c.args.b (omega (arith, ints, c.requires.b.least)) c.requires.b.most in
    let aa = times two c.requires.a in
    let bb = times two b in
    let sum = plus aa b in
    let f = fits w64 c.requires.a (lit< tt) in
    let g = fits w64 b (lit< tt) in
    let ff = fits w64 aa (lit< tt) in
    let gg = fits w64 bb (lit< tt) in
    let fg = fits w64 sum (lit< tt) in
    let is : c.div_euclid.result ≡ nearest c.args.a c.args.b = simp to_z-of_z at c.div_euclid.ensures in
    let small = as_within is (euclid_within 1220040000 _ _ (omega (arith, ints, c.requires.b.least)) sum) in
    let r = fits w64 small (lit< tt) in
    record { value = simp to_z-of_z is; size = simp to_z-of_z small }
