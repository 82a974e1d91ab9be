use Rattle.std.proofs.Common.{arith}
use Rattle.daa_scan.proofs.Sides.{none_led, next_led, all_led}
use Rattle.daa_scan.proofs.trunks.fill_trunks.Goals as goal

pub loop-index-init : goal.loop-index-init
loop-index-init c = none_led c.args.config.now c.args.own.now c.args.needs.now c.most_lookahead-most.result c.args.trunks.now c.requires.room

pub loop-index-preserved : goal.loop-index-preserved
loop-index-preserved c = next_led c.args.config.now c.args.own.now c.args.needs.now c.most_lookahead-most.result c.loop-index.index c.loop-index.trunks
    c.keep.new.trunk (omega (arith, c.loop-index-test.true)) c.loop-index.invariant c.keep.ensures

pub returns-clause-leads : goal.returns-clause-leads
returns-clause-leads c = all_led c.args.config.now c.args.own.now c.args.needs.now c.most_lookahead-most.result c.loop-index.index c.loop-index.trunks
    (omega (arith, c.loop-index-test.false)) c.most_lookahead-most.ensures.all c.loop-index.invariant

pub returns-clause-room : goal.returns-clause-room
returns-clause-room c = c.loop-index.invariant.room
