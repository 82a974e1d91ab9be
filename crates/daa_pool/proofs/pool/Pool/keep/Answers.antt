use Rattle.std.proofs.Common.{◌^◌, ◌<◌, ◌≤◌, ◌∙◌, sym, ap, subst, arith}
use Rattle.daa_range.specs.Range.{RangeState, range_len, rest_of}
use Rattle.daa_range.specs.Word.{packed}
use Rattle.daa_pool.proofs.StealSteps.{keep_at}
use Rattle.daa_pool.proofs.pool.Pool.keep.Goals as goal

pub store-requires : goal.store-requires
store-requires c =
    let p = c.args.self.now in let q = c.args.seat.now in let of = c.requires.pool in let wide = p.words in
    let few = p.units in let crew = p.crew in let n = of.number in let m = q.numbered in let hand = c.requires.hand in (
      of.table,
      omega arith,
      keep_at p.table.shared.key _ q.seat.id q.seat.me q.number _ q.numbered
          (ap packed (ap rest_of hand.0 ∙ sym c.rest.ensures) ∙ sym c.pack.ensures) q.live c.requires.going.0
          (subst (λ (x : RangeState). 2 ≤ range_len x) (sym hand.0) hand.1)
          (subst (λ (x : RangeState). x.upto < 2 ^ 32) (sym hand.0) (let small = hand.2 in omega arith)),
    )
