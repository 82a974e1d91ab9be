use Rattle.std.proofs.Common.{rules, ◌∙◌, ◌≡◌, subst, sym, ℤ, pos, FitsSigned, w32, w64, to_z-of_z, lit<}
use Rattle.daa_fixed.specs.Size.{IsWithin, IsFrom}
use Rattle.daa_fixed.proofs.Bounds.{fits}
use Rattle.daa_fixed.proofs.Towards.{from_within}
use Rattle.daa_legs.specs.Motion.{ground_speed_on}
use Rattle.daa_legs.proofs.StateRanges.{own_speed}
use Rattle.daa_legs.proofs.CandidateCases.{speed-case, speed-other, ground_speed_on-in_range}
use Rattle.daa_legs.proofs.motion.ground_speed_at.Goals as goal

known : (c : goal.After-speed_after) → c.speed_after.result ≡ ground_speed_on c.args.own.now c.args.rates.now c.args.candidate c.args.k
known c =
    let f1 : FitsSigned w32 c.args.own.now.gs = search rules in
    let f2 : FitsSigned w32 c.in-GroundSpeed.g = search rules in
    let f3 : FitsSigned w32 c.args.rates.now.gs = search rules in
    (simp to_z-of_z at c.speed_after.ensures)
    ∙ speed-case c.args.own.now c.args.rates.now c.args.candidate c.in-GroundSpeed.g c.args.k c.in-GroundSpeed.is

range : (c : goal.After-speed_after) → IsFrom (pos 0) (pos 10000) c.speed_after.result
range c = subst (λ (z : ℤ). IsFrom (pos 0) (pos 10000) z) (sym (known c))
    (ground_speed_on-in_range c.args.own.now c.args.rates.now c.requires.own c.requires.rates c.args.candidate c.args.k c.requires.candidate)

pub overflow_cast-result : goal.overflow_cast-result
overflow_cast-result c =
    let f : FitsSigned w64 c.speed_after.result = search rules in
    let w : IsWithin 10000 c.speed_after.result = from_within 10000 tt tt (range c) in
    simp to_z-of_z (fits w32 w (lit< tt))

pub returns-in-GroundSpeed-clause-value : goal.returns-in-GroundSpeed-clause-value
returns-in-GroundSpeed-clause-value c =
    let f : FitsSigned w64 c.speed_after.result = search rules in
    let w : IsWithin 10000 c.speed_after.result = from_within 10000 tt tt (range c) in
    let g : FitsSigned w32 c.speed_after.result = fits w32 w (lit< tt) in
    simp to_z-of_z (known c)

pub returns-in-GroundSpeed-clause-in_range : goal.returns-in-GroundSpeed-clause-in_range
returns-in-GroundSpeed-clause-in_range c =
    let f : FitsSigned w64 c.speed_after.result = search rules in
    let w : IsWithin 10000 c.speed_after.result = from_within 10000 tt tt (range c) in
    let g : FitsSigned w32 c.speed_after.result = fits w32 w (lit< tt) in
    simp to_z-of_z (range c)

pub returns-in_default : goal.returns-in_default
returns-in_default c =
    let f : FitsSigned w32 c.args.own.now.gs = search rules in
    simp to_z-of_z (record { value = speed-other c.args.own.now c.args.rates.now c.args.candidate c.args.k c.in_default.not-GroundSpeed; in_range = own_speed c.requires.own })
