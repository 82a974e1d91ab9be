use Rattle.std.proofs.Common.{arith}
use Rattle.std.proofs.lemmas.List.{nil_from_length}
use Rattle.daa_pool.proofs.Gathering.{gathers_first, last_done, gathers_more, reads_first, reads_all, reads_more, all_read, all_told}
use Rattle.daa_pool.proofs.pool.Pool.gather.Goals as goal

pub loop-other-init : goal.loop-other-init
loop-other-init c = gathers_first c.args.self c.args.seats.items c.pop.new.self.items c.in-Some.seat (c.in-Some.ensures).items c.requires.seats

pub join-requires-clause-other : goal.join-requires-clause-other
join-requires-clause-other c =
    last_done c.args.self c.args.seats.items c.loop-other.seats.items c.pop-in-loop-other.new.self.items
    c.loop-other.seat c.in-Some-pop.other c.loop-other.invariant (c.in-Some-pop.ensures).items

pub loop-other-preserved : goal.loop-other-preserved
loop-other-preserved c = gathers_more c.args.self c.args.seats.items c.loop-other.seats.items
    c.pop-in-loop-other.new.self.items c.loop-other.seat c.join.new.seat c.in-Some-pop.other c.loop-other.invariant
    (c.in-Some-pop.ensures).items c.join.ensures.done c.join.ensures.view

pub loop-unit-init : goal.loop-unit-init
loop-unit-init c = let e = (c.in_default-pop.ensures).cases in
    reads_first c.args.self c.args.seats.items c.loop-other.seats.items c.loop-other.seat c.args.words.now
    c.loop-other.invariant (nil_from_length c.loop-other.seats.items (omega arith)) c.requires.words

pub read-requires-clause-all : goal.read-requires-clause-all
read-requires-clause-all c = reads_all c.args.self c.args.seats.items c.loop-unit.seat c.loop-unit.words c.loop-unit.unit c.loop-unit.invariant c.requires.all

pub loop-unit-preserved : goal.loop-unit-preserved
loop-unit-preserved c = let e = c.read.ensures in
    reads_more c.args.self c.args.seats.items c.loop-unit.seat c.read.new.seat c.loop-unit.words
    c.loop-unit.unit c.read.result c.loop-unit.invariant (omega arith) e.done e.view e.word e.once e.history

pub returns-clause-words : goal.returns-clause-words
returns-clause-words c = all_read c.args.self c.args.seats.items c.loop-unit.seat c.loop-unit.words c.loop-unit.unit c.loop-unit.invariant (omega arith)

pub returns-clause-history : goal.returns-clause-history
returns-clause-history c = let p = c.args.self in let units = p.units in let some = units.0 in
    all_told c.args.self c.args.seats.items c.loop-unit.seat c.loop-unit.words c.loop-unit.unit c.loop-unit.invariant (omega arith)
