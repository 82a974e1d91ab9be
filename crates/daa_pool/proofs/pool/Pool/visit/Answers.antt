use Rattle.std.proofs.Common.{◌≡◌, ◌≢◌, ℕ, ◌+◌, ◌<◌, ◌∙◌, sym, ap, subst, arith}
use Rattle.daa_range.specs.Range.{RangeState, range_len}
use Rattle.daa_range.specs.Word.{packed}
use Rattle.daa_range.proofs.Words.{packed-unpacked}
use Rattle.daa_pool.specs.declared.view.View.{View}
use Rattle.daa_pool.specs.Inside.View.{looked}
use Rattle.daa_pool.specs.Seat.{view}
use Rattle.daa_pool.specs.Inside.Tour.{Toured}
use Rattle.daa_pool.proofs.Looks.{changed, short}
use Rattle.daa_pool.proofs.pool.Pool.visit.Goals as goal

pub returns-then-try_steal-pack-clause-claim : goal.returns-then-try_steal-pack-clause-claim
returns-then-try_steal-pack-clause-claim c =
    let v : View = view c.args.seat.now in let o : ℕ = c.args.other in let m : ℕ = c.look_away.result in let n : ℕ = c.try_steal.result in
    let whole : packed c.unpack-range.result ≡ m = ap packed c.unpack-range.ensures ∙ packed-unpacked m c.look_away.ensures.found in
    let differ : n ≢ packed c.unpack-range.result = λ e. c.if-try_steal-pack.true (e ∙ sym c.pack.ensures) in
    let first : view c.look_away.new.seat ≡ looked v o m = c.look_away.ensures.view in
    let second : view c.try_steal.new.seat ≡ looked (looked v o m) o n = c.try_steal.ensures.missed differ ∙ ap (λ (w : View). looked w o n) first in
    subst (λ (w : View). Toured v w o (o + 1)) (sym second) (changed v o m n c.requires.bare (λ e. differ (sym e ∙ sym whole)))

pub returns-then-len-lt2-clause-claim : goal.returns-then-len-lt2-clause-claim
returns-then-len-lt2-clause-claim c =
    let v : View = view c.args.seat.now in let o : ℕ = c.args.other in let m : ℕ = c.look_away.result in
    let few : range_len c.unpack-range.result < 2 = (let e = c.len.ensures.len in let t = c.if-len-lt2.true in omega arith) in
    subst (λ (w : View). Toured v w o (o + 1)) (sym c.look_away.ensures.view) (short v o m c.requires.bare (subst (λ (x : RangeState). range_len x < 2) c.unpack-range.ensures few))
