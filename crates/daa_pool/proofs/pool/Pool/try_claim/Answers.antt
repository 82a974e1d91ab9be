use Rattle.std.proofs.Common.{◌<◌, ◌∙◌, sym, ap, subst, arith}
use Rattle.daa_range.specs.Range.{RangeState, range_len, rest_of}
use Rattle.daa_range.specs.Word.{packed}
use Rattle.daa_pool.proofs.OwnSteps.{claim_at}
use Rattle.daa_pool.proofs.pool.Pool.try_claim.Goals as goal

pub compare_exchange-requires : goal.compare_exchange-requires
compare_exchange-requires c =
    let p = c.args.self.now in let q = c.args.seat.now in let of = c.requires.pool in let wide = p.words in
    let few = p.units in let crew = p.crew in let n = of.number in let m = q.numbered in let own = c.requires.own in (
      of.table,
      omega arith,
      claim_at p.table.shared.key _ q.seat.id q.seat.me q.number _ _ q.numbered
          (ap packed (sym own.0) ∙ sym c.pack.ensures) (ap packed (ap rest_of (sym own.0) ∙ sym c.rest.ensures)
          ∙ sym c.pack-2.ensures) q.live c.requires.free (subst (λ (x : RangeState). 0 < range_len x) own.0 own.1),
    )
