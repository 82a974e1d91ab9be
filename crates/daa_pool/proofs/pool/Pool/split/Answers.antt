use Rattle.std.proofs.Common.{arith}
use Rattle.daa_pool.proofs.Seats.{splits}
use Rattle.daa_pool.proofs.pool.Pool.split.Goals as goal

pub split_seat-seat-requires : goal.split_seat-seat-requires
split_seat-seat-requires c = let p = c.args.self.now in let q = c.args.seat.now in
    let wide = p.words in let few = p.units in let crew = p.crew in let of = c.requires.pool in
    let next = c.requires.next in let made = next.1 in let low = next.2 in let crew0 = crew.0 in let crew1 = crew.1 in
    (of.table, omega arith, splits p.table.shared.key q.seat.id q.seat.me.0 q.live next.0 (omega arith))
