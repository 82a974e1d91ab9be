use Rattle.std.proofs.Common.{◌∙◌, sym, ap, arith}
use Rattle.daa_range.specs.Word.{packed}
use Rattle.daa_pool.proofs.StealSteps.{steal_at}
use Rattle.daa_pool.proofs.pool.Pool.try_steal.Goals as goal

pub compare_exchange-requires : goal.compare_exchange-requires
compare_exchange-requires c =
    let p = c.args.self.now in let q = c.args.seat.now in let of = c.requires.pool in let wide = p.words in
    let few = p.units in let crew = p.crew in let n = of.number in let m = q.numbered in let crew0 = crew.0 in
    let other = c.requires.other in let range = c.requires.range in let low = other.0 in let small = range.1 in (
      of.table,
      omega arith,
      steal_at p.table.shared.key _ q.seat.id q.seat.me c.args.other _ _ c.args.range
          (sym c.pack.ensures) (ap packed (sym c.lower_half.ensures) ∙ sym c.pack-2.ensures)
          q.live c.requires.free.0 c.requires.free.1 (omega arith) other.1 range.0 (omega arith),
    )
