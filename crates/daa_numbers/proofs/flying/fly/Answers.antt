use Rattle.std.proofs.Common.{◌≡◌, None, Some, pos, w32, w64, FitsSigned, rules, to_z-of_z, subst, sym, arith, lit<}
use Rattle.std.proofs.lemmas.Int.{ints}
use Rattle.daa_fixed.proofs.Bounds.{fits, within}
use Rattle.daa_numbers.specs.Refusal.{traffic_refusal}
use Rattle.daa_numbers.specs.declared.states.DaaTraffic.{DaaTraffic}
use Rattle.daa_numbers.specs.Flown.{flown_traffic, IsAge}
use Rattle.daa_numbers.specs.Inside.Flown.{AreParts}
use Rattle.daa_numbers.proofs.FlownLemmas.{flown_by_parts}
use Rattle.daa_numbers.proofs.flying.fly.Goals as goal

pub returns-clause-flown : goal.returns-clause-flown
returns-clause-flown c = λ (_ : pos 0 ≡ pos 0).
    let age : IsAge c.args.at c.args.now c.args.most c.in-Ok.age = c.in-Ok.ensures.age in
    let small = within 60999 c.in-Ok.age (omega (arith, ints, age.range.least)) age.range.most in
    let f = fits w64 small (lit< tt) in
    let parts : AreParts c.in-Ok.age c.parts_of-seconds.result.0 c.parts_of-seconds.result.1 = simp to_z-of_z at c.parts_of-seconds.ensures in
    let rest = within 1000 c.parts_of-seconds.result.1 (omega (arith, ints, parts.range.least)) (omega (arith, ints, parts.range.most)) in
    let g = fits w64 rest (lit< tt) in
    let is : c.flown_traffic.result ≡ flown_traffic c.ageless-ageless.result c.parts_of-seconds.result.1 c.parts_of-seconds.result.0 =
    simp to_z-of_z at c.flown_traffic.ensures in
    flown_by_parts c.args.at c.args.now c.args.most c.args.traffic.now c.ageless-ageless.result c.flown_traffic.result c.in-Ok.age
    c.parts_of-seconds.result.1 c.parts_of-seconds.result.0 age parts c.ageless-ageless.ensures is

pub returns-clause-sound : goal.returns-clause-sound
returns-clause-sound c = λ (_ : pos 0 ≡ pos 0). subst (λ (t : DaaTraffic). traffic_refusal t ≡ None) c.ageless-ageless.ensures c.in_default.ensures.sound

pub returns-in-Err-clause-refused : goal.returns-in-Err-clause-refused
returns-in-Err-clause-refused c =
    let f : FitsSigned w32 c.code.result = search rules in
    let is : traffic_refusal (record c.args.traffic.now { age = 0 }) ≡ Some c.in-Err.refusal =
    subst (λ (t : DaaTraffic). traffic_refusal t ≡ Some c.in-Err.refusal) c.ageless-ageless.ensures c.in-Err.ensures.refused in
    simp to_z-of_z (λ a b d. (c.in-Err.refusal, is, sym c.code.ensures.value))

pub returns-in-Err-age_of-clause-too_old : goal.returns-in-Err-age_of-clause-too_old
returns-in-Err-age_of-clause-too_old c =
    let f : FitsSigned w32 c.in-Err-age_of.code = search rules in
    let sound : traffic_refusal (record c.args.traffic.now { age = 0 }) ≡ None = subst (λ (t : DaaTraffic). traffic_refusal t ≡ None) c.ageless-ageless.ensures c.in_default.ensures.sound in
    simp to_z-of_z (λ e. record { sound = sound; wrong = c.in-Err-age_of.ensures.old e })
