use Rattle.std.proofs.Common.{rules, ◌∙◌, ◌≡◌, FitsSigned, w32, w64, to_z-of_z}
use Rattle.daa_fixed.proofs.Bounds.{as_within}
use Rattle.daa_fixed.proofs.Towards.{from_within}
use Rattle.daa_legs.specs.Motion.{vertical_speed_on}
use Rattle.daa_legs.proofs.StateRanges.{own_climb}
use Rattle.daa_legs.proofs.CandidateCases.{climb-case, height-case, climb-other, vertical_speed_on-within}
use Rattle.daa_legs.proofs.motion.vertical_speed_at.Goals as goal

known : (c : goal.After-speed_after) → c.speed_after.result ≡ vertical_speed_on c.args.own.now c.args.rates.now c.args.candidate c.args.k
known c =
    let f1 : FitsSigned w32 c.args.own.now.vs = search rules in
    let f2 : FitsSigned w32 c.in-VerticalSpeed.w = search rules in
    let f3 : FitsSigned w32 c.args.rates.now.vs = search rules in
    (simp to_z-of_z at c.speed_after.ensures)
    ∙ climb-case c.args.own.now c.args.rates.now c.args.candidate c.in-VerticalSpeed.w c.args.k c.in-VerticalSpeed.is

pub returns-in-VerticalSpeed-clause-value : goal.returns-in-VerticalSpeed-clause-value
returns-in-VerticalSpeed-clause-value c =
    let f : FitsSigned w64 c.speed_after.result = search rules in
    simp to_z-of_z (known c)

pub returns-in-VerticalSpeed-clause-size : goal.returns-in-VerticalSpeed-clause-size
returns-in-VerticalSpeed-clause-size c =
    let f : FitsSigned w64 c.speed_after.result = search rules in
    simp to_z-of_z (as_within (known c) (vertical_speed_on-within c.args.own.now c.args.rates.now c.requires.own c.requires.rates c.args.candidate c.args.k c.requires.candidate))

pub returns-in-Altitude-clause-value : goal.returns-in-Altitude-clause-value
returns-in-Altitude-clause-value c =
    let f1 : FitsSigned w32 c.args.own.now.alt = search rules in
    let f2 : FitsSigned w32 c.in-Altitude.a = search rules in
    let f3 : FitsSigned w32 c.args.rates.now.alt = search rules in
    let f : FitsSigned w64 c.rise.result = search rules in
    simp to_z-of_z ((simp to_z-of_z at c.rise.ensures.value) ∙ height-case c.args.own.now c.args.rates.now c.args.candidate c.in-Altitude.a c.args.k c.in-Altitude.is)

pub returns-in_default : goal.returns-in_default
returns-in_default c =
    let f : FitsSigned w32 c.args.own.now.vs = search rules in
    let g : FitsSigned w64 c.from.result = search rules in
    let e : c.from.result ≡ c.args.own.now.vs = simp to_z-of_z at c.from.ensures in
    simp to_z-of_z (record {
      value = e ∙ climb-other c.args.own.now c.args.rates.now c.args.candidate c.args.k c.in_default.not-VerticalSpeed c.in_default.not-Altitude;
      size = as_within e (from_within 10000 tt tt (own_climb c.requires.own));
    })
