use Rattle.std.proofs.Common.{rules, ◌∙◌, pos, ◌*ℤ◌, FitsSigned, w32, w64, to_z-of_z, lit<, ◌≡◌}
use Rattle.daa_fixed.specs.Size.{IsWithin}
use Rattle.daa_fixed.proofs.Bounds.{fits, times}
use Rattle.daa_fixed.proofs.LegSizes.{natural}
use Rattle.daa_fixed.proofs.Towards.{from_within}
use Rattle.daa_legs.proofs.motion.toward_after.Goals as goal

pub returns : goal.returns
returns c =
    let wr : IsWithin 10000 c.args.rate = from_within 10000 tt tt c.requires.rate in
    let wk : IsWithin 180 (pos c.args.k) = natural 180 c.args.k c.requires.k in
    let f1 : FitsSigned w64 c.args.now = search rules in
    let f2 : FitsSigned w64 c.args.target = search rules in
    let f3 : FitsSigned w32 c.args.rate = search rules in
    let f4 : FitsSigned w64 c.from.result = search rules in
    let f5 : FitsSigned w64 c.from-2.result = search rules in
    let f6 : FitsSigned w64 (pos c.args.k *ℤ c.args.rate) = fits w64 (times wk wr) (lit< tt) in
    let f7 : FitsSigned w64 c.toward.result = search rules in
    let e : c.from.result *ℤ c.from-2.result ≡ pos c.args.k *ℤ c.args.rate = λ i. c.from.ensures i *ℤ (c.from-2.ensures ∙ to_z-of_z f3) i in
    simp to_z-of_z ((simp (to_z-of_z, e) at c.toward.ensures))
