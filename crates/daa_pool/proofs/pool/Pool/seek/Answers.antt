use Rattle.std.proofs.Common.{◌≤◌, length, sym, subst}
use Rattle.daa_pool.specs.declared.view.View.{View}
use Rattle.daa_pool.specs.Seat.{view}
use Rattle.daa_pool.specs.Inside.Tour.{SeeksInVain}
use Rattle.daa_pool.proofs.Looks.{seeks_first, seeks_second, seeks_nothing}
use Rattle.daa_pool.proofs.pool.Pool.seek.Goals as goal

pub returns-clause-claim : goal.returns-clause-claim
returns-clause-claim c = let q = c.args.seat.now in let of = c.requires.pool in
    subst (λ (x : View). SeeksInVain (view q) x) (sym c.end.ensures.view)
    (seeks_nothing (view q) (view c.tour.new.seat)
    (view c.tour-2.new.seat) c.end.result q.number c.args.self.now.workers q.numbered of.workers
    (c.in_default.ensures).claim (c.in_default-tour.ensures).claim c.end.ensures.empty (subst (λ (x : View).
    length x.settled ≤ length (view c.tour-2.new.seat).answers) c.end.ensures.view c.end.ensures.few))

pub returns-in-Some-clause-claim : goal.returns-in-Some-clause-claim
returns-in-Some-clause-claim c = let q = c.args.seat.now in let of = c.requires.pool in
    seeks_first (view q) (view c.tour.new.seat) q.number c.args.self.now.workers c.in-Some.piece q.numbered of.workers (c.in-Some.ensures).claim

pub returns-in-Some-tour-clause-claim : goal.returns-in-Some-tour-clause-claim
returns-in-Some-tour-clause-claim c = let q = c.args.seat.now in let of = c.requires.pool in
    seeks_second (view q) (view c.tour.new.seat) (view c.tour-2.new.seat) q.number c.args.self.now.workers
    c.in-Some-tour.piece q.numbered of.workers (c.in_default.ensures).claim (c.in-Some-tour.ensures).claim
