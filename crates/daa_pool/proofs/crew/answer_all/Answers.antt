use Rattle.std.proofs.Common.{arith}
use Rattle.daa_pool.proofs.CrewLemmas.{lent_ready, worked_again}
use Rattle.daa_pool.proofs.crew.answer_all.Goals as goal

pub work_all-requires-clause-ready : goal.work_all-requires-clause-ready
work_all-requires-clause-ready g c κs within = let opened = c.in_ok-pool.ensures in
    lent_ready c.in_ok-pool.pool (g.A.Answers.answers c.args.answers.now) c.in_ok-pool.seats.items c.as_mut_slice.result.now c.args.workers opened.pool.0 opened.seats c.as_mut_slice.ensures.value

pub gather-requires-clause-seats : goal.gather-requires-clause-seats
gather-requires-clause-seats g c = let opened = c.in_ok-pool.ensures in let all = c.work_all.auto.seats in
    (worked_again c.in_ok-pool.pool (g.A.Answers.answers c.args.answers.now) c.in_ok-pool.seats.items c.as_mut_slice.result.now c.work_all.new.seats c.args.workers c.in_ok-pool.seats.len
    opened.pool.0 opened.seats c.as_mut_slice.ensures.value (omega arith) (omega arith) c.work_all.ensures).done

pub gather-requires-clause-all : goal.gather-requires-clause-all
gather-requires-clause-all g c = let opened = c.in_ok-pool.ensures in let all = c.work_all.auto.seats in
    (worked_again c.in_ok-pool.pool (g.A.Answers.answers c.args.answers.now) c.in_ok-pool.seats.items c.as_mut_slice.result.now c.work_all.new.seats c.args.workers c.in_ok-pool.seats.len
    opened.pool.0 opened.seats c.as_mut_slice.ensures.value (omega arith) (omega arith) c.work_all.ensures).all

pub returns-clause-answered : goal.returns-clause-answered
returns-clause-answered g c = let opened = c.in_ok-pool.ensures in let all = c.work_all.auto.seats in
    c.gather.ensures.words (g.A.Answers.answers c.args.answers.now)
    (worked_again c.in_ok-pool.pool (g.A.Answers.answers c.args.answers.now) c.in_ok-pool.seats.items c.as_mut_slice.result.now c.work_all.new.seats c.args.workers c.in_ok-pool.seats.len
    opened.pool.0 opened.seats c.as_mut_slice.ensures.value (omega arith) (omega arith) c.work_all.ensures).answers_are
