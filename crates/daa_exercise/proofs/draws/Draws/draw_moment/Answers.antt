use Rattle.std.proofs.Common.{sym, subst}
use Rattle.daa_state.specs.InRange.{IsPictureInRange}
use Rattle.daa_exercise.specs.Inside.Drawing.{outputs_from}
use Rattle.daa_exercise.proofs.MoveLemmas.{moment_drawn}
use Rattle.daa_exercise.proofs.RangeLemmas.{drawn_range}
use Rattle.daa_exercise.proofs.draws.Draws.draw_moment.Goals as goal

pub returns : goal.returns
returns c =
    let drawn = moment_drawn c.args.self.now c.next_own-own.new.self c.next_count-count.new.self c.draw_traffic.new.self c.args.time
    c.next_count-count.result c.next_own-own.result c.draw_traffic.new.traffic.items c.next_own-own.ensures.rest c.next_count-count.ensures.rest c.draw_traffic.ensures.rest
    c.next_own-own.ensures.value c.next_count-count.ensures.value c.draw_traffic.ensures.value in record {
      value = drawn.0;
      rest = drawn.1;
      in_range = subst IsPictureInRange (sym drawn.0) (drawn_range (outputs_from c.args.self.now) c.args.time 0);
    }
