use Rattle.std.proofs.Common.{arith}
use Rattle.daa_numbers.proofs.JoinLemmas.{all_joined}
use Rattle.daa_numbers.proofs.joining.add.Goals as goal

pub returns : goal.returns
returns c = all_joined c.loop-index.index c.args.masks.now c.args.more.now c.loop-index.masks c.loop-index.invariant (omega arith)
