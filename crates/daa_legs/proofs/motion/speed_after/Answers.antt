use Rattle.std.proofs.Common.{rules, ◌∙◌, ◌≡◌, pos, ◌*ℤ◌, FitsSigned, w32, w64, to_z-of_z}
use Rattle.daa_fixed.specs.Toward.{toward_of}
use Rattle.daa_legs.proofs.motion.speed_after.Goals as goal

pub returns : goal.returns
returns c =
    let f1 : FitsSigned w32 c.args.now = search rules in
    let f2 : FitsSigned w32 c.args.target = search rules in
    let f3 : FitsSigned w32 c.args.rate = search rules in
    let g1 : FitsSigned w64 c.from.result = search rules in
    let g2 : FitsSigned w64 c.from-2.result = search rules in
    let g3 : FitsSigned w64 c.toward_after.result = search rules in
    let h1 : c.from.result ≡ c.args.now = simp to_z-of_z at c.from.ensures in
    let h2 : c.from-2.result ≡ c.args.target = simp to_z-of_z at c.from-2.ensures in
    simp to_z-of_z ((simp to_z-of_z at c.toward_after.ensures) ∙ (λ i. toward_of (h1 i) (h2 i) (pos c.args.k *ℤ c.args.rate)))
