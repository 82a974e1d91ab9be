use Rattle.std.proofs.Common.{arith}
use Rattle.daa_pool.proofs.OwnSteps.{look_home_at}
use Rattle.daa_pool.proofs.pool.Pool.look_home.Goals as goal

pub load-requires : goal.load-requires
load-requires c = let p = c.args.self.now in let q = c.args.seat.now in let of = c.requires.pool in
    let wide = p.words in let few = p.units in let crew = p.crew in let n = of.number in let m = q.numbered in
    (of.table, omega arith, look_home_at p.table.shared.key _ q.seat.id q.seat.me q.number q.numbered q.live c.requires.going)
