use Rattle.std.proofs.Common.{rules}
use Rattle.daa_config.proofs.GridLemmas.{computes}
use Rattle.daa_config.proofs.config.value_at.Goals as goal

pub overflow_mul-result : goal.overflow_mul-result
overflow_mul-result c =
    (computes c.args.grid.now c.from.result c.args.i (search rules) c.requires.within c.requires.grid (search rules) (search rules) (search rules)).product

pub overflow_add-result : goal.overflow_add-result
overflow_add-result c =
    (computes c.args.grid.now c.from.result c.args.i (search rules) c.requires.within c.requires.grid (search rules) (search rules) (search rules)).sum

pub overflow_cast-result : goal.overflow_cast-result
overflow_cast-result c =
    (computes c.args.grid.now c.from.result c.args.i (search rules) c.requires.within c.requires.grid (search rules) (search rules) (search rules)).narrow

pub returns : goal.returns
returns c =
    (computes c.args.grid.now c.from.result c.args.i (search rules) c.requires.within c.requires.grid (search rules) (search rules) (search rules)).value
