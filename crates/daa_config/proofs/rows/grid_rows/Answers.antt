use Rattle.std.proofs.Common.{◌≡◌, ◌∙◌, ap, ℤ, rules, pos, ◌-ℤ◌, refl}
use Rattle.daa_config.specs.Inside.Rows.{row_by}
use Rattle.daa_config.specs.Rows.{number}
use Rattle.daa_config.proofs.rows.grid_rows.Goals as goal

pub returns : goal.returns
returns c =
    let v = c.args.values.now in
    let g = c.args.g.now in
    let least : row_by c.number.result ≡ number "min" v.low v.high g.min = search rules in
    let most : row_by c.number-2.result ≡ number "max" g.min v.high g.max = search rules in
    let step : row_by c.number-3.result ≡ number "step" (pos 1) (v.high -ℤ v.low) g.step =
    (let w : row_by c.number-3.result ≡ number "step" (pos 1) c.width.result g.step = search rules in w)
    ∙ ap (λ (z : ℤ). number "step" (pos 1) z g.step) c.width.ensures in
    let rate : row_by c.number-4.result ≡ number "rate" (pos 1) (pos 10000) g.rate = search rules in
    rw (least, most, step, rate) refl
