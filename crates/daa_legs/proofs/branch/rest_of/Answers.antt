use Rattle.std.proofs.Common.{rules, refl, ◌≡◌, ◌∙◌, pos, ◌-ℤ◌, ◌+ℤ◌, ◌*ℤ◌, FitsSigned, w32, w64, to_z-of_z, lit<}
use Rattle.daa_fixed.specs.Size.{IsWithin}
use Rattle.daa_fixed.proofs.Bounds.{fits, times, plus, minus}
use Rattle.daa_fixed.proofs.LegSizes.{natural}
use Rattle.daa_fixed.proofs.Towards.{from_within}
use Rattle.daa_legs.proofs.branch.rest_of.Goals as goal

pub overflow_sub-result-then-way : goal.overflow_sub-result-then-way
overflow_sub-result-then-way c =
    let rate : IsWithin 10000 c.args.rate = from_within 10000 tt tt c.requires.rate in
    let legs : IsWithin 7200000 (pos c.args.way.legs) = natural 7200000 c.args.way.legs c.requires.few in
    let flown = times legs rate in
    let left = minus c.requires.target c.requires.now in
    let f1 : FitsSigned w64 c.args.now = search rules in
    let f2 : FitsSigned w64 c.args.target = search rules in
    let f3 : FitsSigned w32 c.args.rate = search rules in
    let f4 : FitsSigned w64 c.from.result = search rules in
    let f5 : FitsSigned w64 c.from-2.result = search rules in
    let f6 : FitsSigned w64 (c.args.target -ℤ c.args.now) = fits w64 left (lit< tt) in
    let f7 : FitsSigned w64 (pos c.args.way.legs *ℤ c.args.rate) = fits w64 flown (lit< tt) in
    let e : c.from.result *ℤ c.from-2.result ≡ pos c.args.way.legs *ℤ c.args.rate = λ i. c.from.ensures i *ℤ (c.from-2.ensures ∙ to_z-of_z f3) i in
    simp (to_z-of_z, e) (fits w64 (minus left flown) (lit< tt))

pub overflow_add-result : goal.overflow_add-result
overflow_add-result c =
    let rate : IsWithin 10000 c.args.rate = from_within 10000 tt tt c.requires.rate in
    let legs : IsWithin 7200000 (pos c.args.way.legs) = natural 7200000 c.args.way.legs c.requires.few in
    let flown = times legs rate in
    let left = minus c.requires.target c.requires.now in
    let f1 : FitsSigned w64 c.args.now = search rules in
    let f2 : FitsSigned w64 c.args.target = search rules in
    let f3 : FitsSigned w32 c.args.rate = search rules in
    let f4 : FitsSigned w64 c.from.result = search rules in
    let f5 : FitsSigned w64 c.from-2.result = search rules in
    let f6 : FitsSigned w64 (c.args.target -ℤ c.args.now) = fits w64 left (lit< tt) in
    let f7 : FitsSigned w64 (pos c.args.way.legs *ℤ c.args.rate) = fits w64 flown (lit< tt) in
    let e : c.from.result *ℤ c.from-2.result ≡ pos c.args.way.legs *ℤ c.args.rate = λ i. c.from.ensures i *ℤ (c.from-2.ensures ∙ to_z-of_z f3) i in
    simp (to_z-of_z, e) (fits w64 (plus left flown) (lit< tt))

pub returns-then-way-clause-up : goal.returns-then-way-clause-up
returns-then-way-clause-up c =
    let rate : IsWithin 10000 c.args.rate = from_within 10000 tt tt c.requires.rate in
    let legs : IsWithin 7200000 (pos c.args.way.legs) = natural 7200000 c.args.way.legs c.requires.few in
    let flown = times legs rate in
    let left = minus c.requires.target c.requires.now in
    let f1 : FitsSigned w64 c.args.now = search rules in
    let f2 : FitsSigned w64 c.args.target = search rules in
    let f3 : FitsSigned w32 c.args.rate = search rules in
    let f4 : FitsSigned w64 c.from.result = search rules in
    let f5 : FitsSigned w64 c.from-2.result = search rules in
    let f6 : FitsSigned w64 (c.args.target -ℤ c.args.now) = fits w64 left (lit< tt) in
    let f7 : FitsSigned w64 (pos c.args.way.legs *ℤ c.args.rate) = fits w64 flown (lit< tt) in
    let f8 : FitsSigned w64 ((c.args.target -ℤ c.args.now) -ℤ pos c.args.way.legs *ℤ c.args.rate) = fits w64 (minus left flown) (lit< tt) in
    let e : c.from.result *ℤ c.from-2.result ≡ pos c.args.way.legs *ℤ c.args.rate = λ i. c.from.ensures i *ℤ (c.from-2.ensures ∙ to_z-of_z f3) i in
    λ _. simp (to_z-of_z, e) refl

pub returns-else-way-clause-down : goal.returns-else-way-clause-down
returns-else-way-clause-down c =
    let rate : IsWithin 10000 c.args.rate = from_within 10000 tt tt c.requires.rate in
    let legs : IsWithin 7200000 (pos c.args.way.legs) = natural 7200000 c.args.way.legs c.requires.few in
    let flown = times legs rate in
    let left = minus c.requires.target c.requires.now in
    let f1 : FitsSigned w64 c.args.now = search rules in
    let f2 : FitsSigned w64 c.args.target = search rules in
    let f3 : FitsSigned w32 c.args.rate = search rules in
    let f4 : FitsSigned w64 c.from.result = search rules in
    let f5 : FitsSigned w64 c.from-2.result = search rules in
    let f6 : FitsSigned w64 (c.args.target -ℤ c.args.now) = fits w64 left (lit< tt) in
    let f7 : FitsSigned w64 (pos c.args.way.legs *ℤ c.args.rate) = fits w64 flown (lit< tt) in
    let f8 : FitsSigned w64 ((c.args.target -ℤ c.args.now) +ℤ pos c.args.way.legs *ℤ c.args.rate) = fits w64 (plus left flown) (lit< tt) in
    let e : c.from.result *ℤ c.from-2.result ≡ pos c.args.way.legs *ℤ c.args.rate = λ i. c.from.ensures i *ℤ (c.from-2.ensures ∙ to_z-of_z f3) i in
    λ _. simp (to_z-of_z, e) refl
