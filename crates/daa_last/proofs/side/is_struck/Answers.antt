use Rattle.std.proofs.Common.{refl, arith}
use Rattle.daa_state.specs.declared.word.Traffic.{Traffic}
use Rattle.daa_last.specs.Inside.Search.{IsStruckBy}
use Rattle.daa_last.proofs.Searching.{none_more, none_all}
use Rattle.daa_last.proofs.side.is_struck.Goals as goal

pub returns-then-is_struck_by : goal.returns-then-is_struck_by
returns-then-is_struck_by c = (
  (λ _. record {
    place = c.loop-place.place;
    aircraft = c.aircraft_at-aircraft.result.now;
    there = c.aircraft_at-aircraft.ensures.listed;
    is = c.is_struck_by.ensures.0 c.if-is_struck_by.true;
  }),
  (λ _. refl),
)

pub loop-place-preserved : goal.loop-place-preserved
loop-place-preserved c = none_more c.args.picture.now
    (λ (t : Traffic). IsStruckBy c.args.config.now c.args.picture.now.own c.args.candidate c.args.m t c.args.k) c.loop-place.place
    c.aircraft_at-aircraft.result.now c.aircraft_at-aircraft.ensures.listed
    (λ x. let t = c.is_struck_by.ensures.1 x in cc (t, c.if-is_struck_by.false))
    c.loop-place.invariant

pub returns : goal.returns
returns c = (
  (λ t. absurd (cc t)),
  (λ x. absurd
      (none_all c.args.picture.now
      (λ (t : Traffic). IsStruckBy c.args.config.now c.args.picture.now.own c.args.candidate c.args.m t c.args.k) c.loop-place.place
      (omega (arith, c.loop-place-test.false, c.len-place-end.ensures.value)) c.loop-place.invariant x.place x.aircraft x.there x.is)),
)
