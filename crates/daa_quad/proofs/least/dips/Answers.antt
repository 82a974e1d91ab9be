use Rattle.std.proofs.Common.{pos, ◌≤ℤ◌}
use Rattle.daa_quad.proofs.Parabolas.{all_above, not_above}
use Rattle.daa_quad.proofs.least.dips.Goals as goal

pub returns-in-Above : goal.returns-in-Above
returns-in-Above c =
    let least = c.least_point-least.result in
    let fraction : pos 1 ≤ℤ least.den = least.positive in
    all_above c.args.q.now c.args.from.now c.args.upto.now least.num least.den fraction c.least_point-least.ensures.least c.in-Above.ensures

pub returns-in_default : goal.returns-in_default
returns-in_default c = record {
  between = c.least_point-least.ensures.between;
  not_above = not_above _ _ c.sign_at.ensures c.in_default.not-Above;
}
