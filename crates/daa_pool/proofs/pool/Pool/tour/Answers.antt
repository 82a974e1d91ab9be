use Rattle.std.proofs.Common.{◌≡◌, ℕ, ◌+◌, subst, arith}
use Rattle.daa_pool.specs.Seat.{view}
use Rattle.daa_pool.specs.Inside.Tour.{Toured}
use Rattle.daa_pool.proofs.Looks.{toured_more, takes_more}
use Rattle.daa_pool.proofs.pool.Pool.tour.Goals as goal

pub loop-other-preserved : goal.loop-other-preserved
loop-other-preserved c = let e = c.visit.ensures in record {
  pool = e.pool;
  toured = toured_more (view c.args.seat.now)
      (view c.loop-other.seat) (view c.visit.new.seat) c.args.first c.loop-other.other
      (c.loop-other.other + 1) (omega arith) (omega arith) c.loop-other.invariant.toured (c.in_default.ensures).claim;
}

pub returns-clause-claim : goal.returns-clause-claim
returns-clause-claim c =
    let test = c.loop-other-test.false in let auto = c.loop-other.auto in let within = c.requires.range in let low = within.0 in let high = auto.other-end low in
    let end : c.loop-other.other ≡ c.args.upto = omega arith in
    subst (λ (n : ℕ). Toured (view c.args.seat.now) (view c.loop-other.seat) c.args.first n) end c.loop-other.invariant.toured

pub returns-in-Some-clause-claim : goal.returns-in-Some-clause-claim
returns-in-Some-clause-claim c = let auto = c.loop-other.auto in let within = c.requires.range in let test = c.loop-other-test.true in
    takes_more (view c.args.seat.now) (view c.loop-other.seat) (view c.visit.new.seat) c.args.first c.loop-other.other (c.loop-other.other + 1) c.args.upto c.in-Some.piece
    (omega arith) (omega arith) (omega arith) c.loop-other.invariant.toured (c.in-Some.ensures).claim
