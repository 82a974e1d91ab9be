use Rattle.std.proofs.Common.{◌≤◌, ◌+◌, ◌-◌, ◌++◌, ◌∙◌, arith, take, drop, length, length-drop, length-take, subst, sym}
use Rattle.daa_lines.specs.LinesState.{LinesState}
use Rattle.daa_state.specs.MomentStep.{MomentsState}
use Rattle.daa_replay.specs.Inside.Lines.{Follows}
use Rattle.daa_replay.proofs.FollowsLemmas.{follows-part}
use Rattle.daa_replay.proofs.events.next_of_lines.Goals as goal

pub loop-done-preserved : goal.loop-done-preserved
loop-done-preserved c =
    let piece = c.args.piece.now in
    let done = c.loop-done.done in
    let n = c.feed.result in
    let i = c.loop-done.invariant in
    let within : n ≤ length piece - done = omega (arith, c.feed.ensures.within, length-take (length piece - done) (drop done piece), length-drop done piece) in
    record {
      within = omega (arith, i.within);
      forward = omega (arith, i.forward);
      lines = record {
        free = c.takes_addition.ensures.free c.if-not-takes_addition.false;
        going = c.takes_addition.ensures.ended ∙ c.feed.ensures.going;
        room = omega (arith, c.takes_addition.ensures.fed, c.feed.ensures.fed, i.lines.room);
      };
      kept = λ bytes given f. c.takes_addition.ensures.kept c.if-not-takes_addition.false (bytes ++ take (done + n) piece) given
          (follows-part bytes piece given c.loop-done.lines c.feed.new.self c.loop-done.moments done n within c.feed.ensures.kept (i.kept bytes given f));
    }

pub returns-then-not-takes_addition-clause-kept : goal.returns-then-not-takes_addition-clause-kept
returns-then-not-takes_addition-clause-kept c bytes given f =
    let piece = c.args.piece.now in
    let done = c.loop-done.done in
    let n = c.feed.result in
    let fed = bytes ++ take (done + n) piece in
    let same = c.takes_addition.ensures.unchanged c.if-not-takes_addition.true in
    let within : n ≤ length piece - done = omega (arith, c.feed.ensures.within, length-take (length piece - done) (drop done piece), length-drop done piece) in
    c.take_any.ensures.kept fed given
    (subst (λ (l : LinesState). Follows fed given l c.takes_addition.new.moments) (sym same.0)
    (subst (λ (m : MomentsState). Follows fed given c.feed.new.self m) (sym same.1)
    (follows-part bytes piece given c.loop-done.lines c.feed.new.self c.loop-done.moments done n within c.feed.ensures.kept (c.loop-done.invariant.kept bytes given f))))
