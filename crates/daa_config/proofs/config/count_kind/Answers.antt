use Rattle.std.proofs.Common.{◌∙◌, sym, ap, subst, arith}
use Rattle.daa_config.specs.Numbers.{count_of}
use Rattle.daa_config.specs.Inside.Stepped.{IsStepped}
use Rattle.daa_config.proofs.GridLemmas.{few_of_kind, stepped_kind}
use Rattle.daa_config.proofs.config.count_kind.Goals as goal

pub count-requires : goal.count-requires
count-requires c = let (settings, accepted, same) = c.requires in subst IsStepped (sym (c.grid_of.ensures settings same)) (stepped_kind settings c.args.kind accepted)

pub overflow_cast-result : goal.overflow_cast-result
overflow_cast-result c = let (settings, accepted, same) = c.requires in
    omega (arith, few_of_kind settings c.args.kind accepted, c.count.ensures, ap count_of (c.grid_of.ensures settings same))

pub returns : goal.returns
returns c settings same = c.count.ensures ∙ ap count_of (c.grid_of.ensures settings same)
