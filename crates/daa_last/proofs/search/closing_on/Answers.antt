use Rattle.std.proofs.Common.{arith}
use Rattle.daa_state.specs.declared.word.Traffic.{Traffic}
use Rattle.daa_last.specs.Inside.Search.{IsClosedLate}
use Rattle.daa_last.proofs.Searching.{none_more, none_all}
use Rattle.daa_last.proofs.search.closing_on.Goals as goal

pub returns-then-is_closed : goal.returns-then-is_closed
returns-then-is_closed c = record {
  place = c.args.likely;
  aircraft = c.aircraft_at-aircraft.result.now;
  there = c.aircraft_at-aircraft.ensures.listed;
  is = c.is_closed.ensures.0 c.if-is_closed.true;
}

pub returns-then-is_closed-2 : goal.returns-then-is_closed-2
returns-then-is_closed-2 c = record {
  place = c.loop-place.place;
  aircraft = c.aircraft_at-aircraft-in-loop-place.result.now;
  there = c.aircraft_at-aircraft-in-loop-place.ensures.listed;
  is = c.is_closed-in-loop-place.ensures.0 c.if-is_closed-2.true;
}

pub loop-place-preserved : goal.loop-place-preserved
loop-place-preserved c = none_more c.args.picture.now
    (λ (t : Traffic). IsClosedLate c.args.config.now c.args.picture.now.own c.args.rest.now.candidate c.args.m t c.args.rest.now.from) c.loop-place.place
    c.aircraft_at-aircraft-in-loop-place.result.now c.aircraft_at-aircraft-in-loop-place.ensures.listed
    (λ x. let t = c.is_closed-in-loop-place.ensures.1 x in cc (t, c.if-is_closed-2.false))
    c.loop-place.invariant

pub returns : goal.returns
returns c x = none_all c.args.picture.now
    (λ (t : Traffic). IsClosedLate c.args.config.now c.args.picture.now.own c.args.rest.now.candidate c.args.m t c.args.rest.now.from) c.loop-place.place
    (omega (arith, c.loop-place-test.false, c.len-count.ensures.value)) c.loop-place.invariant x.place x.aircraft x.there x.is
