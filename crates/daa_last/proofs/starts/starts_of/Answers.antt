use Rattle.std.proofs.Common.{arith}
use Rattle.daa_last.proofs.Starting.{before_more, before_all}
use Rattle.daa_last.proofs.starts.starts_of.Goals as goal

pub loop-place-preserved : goal.loop-place-preserved
loop-place-preserved c = before_more c.args.config.now c.args.picture.now c.args.horizon c.loop-place.place c.loop-place.starts c.starts_beside-starts.result c.aircraft_at.result.now
    c.aircraft_at.ensures.listed c.starts_beside-starts.ensures c.loop-place.invariant

pub returns : goal.returns
returns c = before_all c.args.config.now c.args.picture.now c.args.horizon c.loop-place.place c.loop-place.starts
    (omega (arith, c.loop-place-test.false, c.len-place-end.ensures.value)) c.loop-place.invariant
