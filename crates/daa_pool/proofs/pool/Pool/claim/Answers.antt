use Rattle.std.proofs.Common.{◌≡◌, ◌≢◌, ℕ, ◌<◌, ◌∙◌, length, sym, ap, subst}
use Rattle.daa_pool.specs.declared.view.View.{View}
use Rattle.daa_pool.specs.Seat.{view, IsFree}
use Rattle.daa_range.specs.Range.{RangeState}
use Rattle.daa_pool.specs.Claim.{Claims}
use Rattle.daa_range.specs.Word.{packed}
use Rattle.daa_pool.proofs.ShorterLooks.{found_fewer}
use Rattle.daa_pool.proofs.Looks.{LooksHome, looks_home_more, claimed_home, some_after, none_after}
use Rattle.daa_pool.proofs.pool.Pool.claim.Goals as goal

pub loop-own-preserved : goal.loop-own-preserved
loop-own-preserved c = let u : View = view c.args.seat.now in let v : View = view c.loop-own.seat in let f = c.loop-own.invariant.free in
    let miss = c.try_claim-found.ensures.missed (λ e. c.if-found-pack.false (e ∙ sym c.pack.ensures)) in
    let other : c.try_claim-found.result ≢ packed v.bound = (λ e. c.if-found-pack.false ((e ∙ ap packed c.loop-own.invariant.bound) ∙ sym c.pack.ensures)) in record {
      pool = c.try_claim-found.ensures.pool;
      free = subst (λ (x : View). IsFree x) (sym miss.0) (record { hand = f.hand; going = f.going });
      bound = ap (λ (x : View). x.bound) miss.0 ∙ sym c.unpack-own-in-loop-own.ensures;
      looks = subst (λ (x : View). LooksHome u x) (sym miss.0) (looks_home_more u v c.try_claim-found.result c.loop-own.invariant.looks (found_fewer v c.try_claim-found.result miss.1 other));
    }

pub returns-then-found-pack-clause-some : goal.returns-then-found-pack-clause-some
returns-then-found-pack-clause-some c = let u : View = view c.args.seat.now in let v : View = view c.loop-own.seat in
    let hit = c.try_claim-found.ensures.claimed (c.if-found-pack.true ∙ c.pack.ensures) in
    let unit : v.bound.first ≡ c.own.inside.first = ap (λ (x : RangeState). x.first) (c.loop-own.invariant.bound ∙ sym c.own.view_is) in
    subst (λ (t : View × ℕ). Claims u t.0 t.1) (λ i. (sym hit.0 i, unit i))
    (claimed_home u v c.loop-own.invariant.looks c.loop-own.invariant.free (subst (λ (n : ℕ). n < length v.answers)
    (sym (ap (λ (x : RangeState). x.first) c.loop-own.invariant.bound)) hit.1))

pub returns-clause-some : goal.returns-clause-some
returns-clause-some c = some_after c.seek.result (view c.args.seat.now) (view c.loop-own.seat) (view c.seek.new.seat) c.loop-own.invariant.looks c.seek.ensures.claim

pub returns-clause-none : goal.returns-clause-none
returns-clause-none c = none_after c.seek.result (view c.args.seat.now) (view c.loop-own.seat) (view c.seek.new.seat) c.loop-own.invariant.looks c.seek.ensures.claim
