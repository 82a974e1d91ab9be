use Rattle.std.proofs.Common.{arith}
use Rattle.daa_scan.proofs.Needed.{none_idle, idle_next, idle_all}
use Rattle.daa_scan.proofs.needs.with_levels.Goals as goal

pub loop-done-init : goal.loop-done-init
loop-done-init c = record {
  more = λ kind e. e;
  below = none_idle c.args.encounter.now.config.now c.args.encounter.now.own.now c.args.encounter.now.aircraft.now c.args.needs;
}

pub loop-done-preserved : goal.loop-done-preserved
loop-done-preserved c =
    let e = c.args.encounter.now in
    record {
      more = λ kind n. c.loop-done.invariant.more kind (c.needed_at-all.ensures.more kind n);
      below = idle_next e.config.now e.own.now e.aircraft.now c.loop-done.done c.loop-done.all c.needed_at-all.result c.level.result.now c.level.ensures.value
          c.needed_at-all.ensures.more c.needed_at-all.ensures.idle c.loop-done.invariant.below;
    }

pub returns-clause-idle : goal.returns-clause-idle
returns-clause-idle c =
    let e = c.args.encounter.now in
    idle_all e.config.now e.own.now e.aircraft.now c.loop-done.done c.loop-done.all (omega (
      arith,
      c.loop-done-test.false,
      c.loop-done.auto.done-end,
      c.levels-done-end.ensures.value,
    )) c.loop-done.invariant.below
