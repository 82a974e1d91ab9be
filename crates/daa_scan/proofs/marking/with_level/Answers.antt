use Rattle.std.proofs.Common.{◌≡◌, ◌-◌, ◌*◌, ◌^◌, ◌%◌, ap, ◌∙◌, arith}
use Rattle.std.specs.Int.Bits.{bit_or, or_zero_r}
use mir.Val.{bool_byte}
use Rattle.daa_scan.proofs.marking.with_level.Goals as goal

pub returns-clause-not_met : goal.returns-clause-not_met
returns-clause-not_met c f =
    let none : c.from.result ≡ 0 = c.from.ensures ∙ ap bool_byte f in
    let nothing : 0 * 2 ^ (c.args.l - 1) % 256 ≡ 0 = omega arith in
    ap (λ n. bit_or c.args.mask (n * 2 ^ (c.args.l - 1) % 256)) none ∙ ap (bit_or c.args.mask) nothing ∙ or_zero_r c.args.mask
