use Rattle.std.proofs.Common.{arith}
use Rattle.daa_pool.proofs.Joining.{joins}
use Rattle.daa_pool.proofs.pool.Pool.join.Goals as goal

pub join_seat-requires : goal.join_seat-requires
join_seat-requires c = let p = c.args.self.now in let q = c.args.seat.now in
    let wide = p.words in let few = p.units in let crew = p.crew in let a = c.requires.seat in
    let b = c.requires.other in let of = a.of in let of' = b.of in let x = c.args.other in let crew1 = crew.1 in
    (of.table, of'.table, x.bare, omega arith, joins p.table.shared.key q.seat.id x.seat.id q.seat.me.0 x.seat.me.0 q.live x.live b.over)
