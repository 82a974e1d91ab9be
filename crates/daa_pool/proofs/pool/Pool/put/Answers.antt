use Rattle.std.proofs.Common.{arith}
use Rattle.daa_pool.proofs.OwnSteps.{settle_at}
use Rattle.daa_pool.proofs.pool.Pool.put.Goals as goal

pub store-requires : goal.store-requires
store-requires c = let p = c.args.self.now in let q = c.args.seat.now in
    let of = c.requires.pool in let wide = p.words in let few = p.units in let crew = p.crew in let n = of.number in
    let m = q.numbered in let piece = c.requires.piece in let b = piece.below in let u = of.units in
    (of.table, omega arith, settle_at p.table.shared.key _ q.seat.id q.seat.me p.workers c.args.unit c.args.word crew.0 q.live piece c.requires.word)
