use Rattle.std.proofs.Common.{◌≡◌, ◌∙◌, length, min, rules, arith}
use Rattle.daa_numbers.proofs.LineLemmas.{named_within}
use Rattle.daa_numbers.proofs.lines.has_id.Goals as goal

pub returns : goal.returns
returns c =
    let all : length c.args.lines.now.traffic ≡ 64 = search rules in
    let within : c.min-count.result ≡ min c.args.lines.now.count 64 = omega (arith, c.min-count.ensures) in
    c.one_is_named.ensures ∙ named_within c.args.id.now c.args.lines.now.traffic c.args.lines.now.count _ all within
