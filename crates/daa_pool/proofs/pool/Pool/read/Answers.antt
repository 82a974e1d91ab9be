use Rattle.std.proofs.Common.{◌+◌, arith}
use Rattle.daa_pool.proofs.Joining.{read_at}
use Rattle.daa_pool.proofs.pool.Pool.read.Goals as goal

pub load-requires : goal.load-requires
load-requires c = let p = c.args.self.now in let q = c.args.seat.now in
    let wide = p.words in let few = p.units in let crew = p.crew in let few1 = few.1 in let d = c.requires.done in
    let of = d.of in let crew0 = crew.0 in let low = c.requires.unit in let units = of.units in
    (of.table, omega arith, read_at p.table.shared.key _ q.seat.id q.seat.me (p.workers + c.args.unit) c.args.unit (omega arith) q.live d.over (λ n h. c.requires.all n (omega arith)) low)
