use Rattle.std.proofs.Common.{◌≡◌, ◌∙◌, ◌-◌, ◌++◌, All, Bool, IfSome, Option, arith, length, refl, subst, sym, take}
use Rattle.daa_config.specs.Settings.{Settings}
use Rattle.daa_lines.specs.LinesState.{LinesState}
use Rattle.daa_replay.specs.declared.checkpoint.Checkpoint.{Checkpoint}
use Rattle.daa_replay.specs.Moment.{IsEventText}
use Rattle.daa_replay.specs.Inside.Batch.{Fails, IsFilled, Shares}
use Rattle.daa_replay.specs.Inside.Events.{HasLines}
use Rattle.daa_replay.specs.Inside.Checkpoint.{IsCheckpoint, Reading, lines_at, moments_at, reading, reading_at}
use Rattle.daa_replay.proofs.BatchLemmas.{fails-after, fails-event, shares-event, shares-join, shares-none, shares-pass}
use Rattle.daa_replay.proofs.CheckpointLemmas.{behind-there, lines-there, same-reading}
use Rattle.daa_replay.proofs.ReportLemmas.{on_err}
use Rattle.daa_replay.proofs.batch.write_together.Goals as goal

pub loop-done-init : goal.loop-done-init
loop-done-init g c =
    let settings = c.args.engine.now.settings in
    let piece = c.args.piece.now in
    let front = c.place_in_front-here in
    let has : HasLines (length piece - 0) front.new.lines = record { free = front.ensures.free; going = front.ensures.going; room = omega (arith, front.ensures.fed, c.requires.room) } in
    record {
      filled = subst (λ (s : Settings). All (IsFilled s piece) c.clear_lanes.new.batch.lanes.items) c.config.ensures.value c.clear_lanes.ensures;
      same = refl;
      within = omega arith;
      lines = has;
      here = front.ensures.stands;
      there = behind-there piece 0 front.new.lines front.new.moments front.result front.ensures.stands (omega arith) has front.ensures.counted front.ensures.format;
      shares = shares-pass settings piece (reading 0 c.args.lines.now c.args.moments.now) (reading 0 c.args.lines.now c.args.moments.now) (reading 0 front.new.lines front.new.moments) _ _ _
          (shares-none settings piece (reading 0 c.args.lines.now c.args.moments.now) (g.K.Sink.taken c.args.sink.now)) (λ bytes given f. front.ensures.kept (bytes ++ take 0 piece) given f);
      calm = refl;
    }

pub returns-in_err-reach-in-Some-clause-err : goal.returns-in_err-reach-in-Some-clause-err
returns-in_err-reach-in-Some-clause-err g c =
    let settings = c.args.engine.now.settings in
    let piece = c.args.piece.now in
    let i = c.loop-done.invariant in
    let start : Reading = reading 0 c.args.lines.now c.args.moments.now in
    let now : Reading = reading c.loop-done.done c.loop-done.lines c.loop-done.moments in
    let here : now ≡ reading_at c.in-Some.place = subst (λ (h : Option Checkpoint). IfSome h (λ place. now ≡ reading_at place)) c.in-Some.is i.here in
    let set = c.config-in-Some.ensures.value ∙ i.same in
    let fails : Fails settings piece (reading_at c.in-Some.place) (g.K.Sink.taken c.loop-done.sink) (g.K.Sink.taken c.write_parts.new.sink) =
    subst (λ (s : Settings). Fails s piece (reading_at c.in-Some.place) (g.K.Sink.taken c.loop-done.sink) (g.K.Sink.taken c.write_parts.new.sink)) set c.in_err-reach-in-Some.ensures.err in
    on_err _ _ (fails-after settings piece start now c.loop-done.refused (g.K.Sink.taken c.args.sink.now) (g.K.Sink.taken c.loop-done.sink) (g.K.Sink.taken c.write_parts.new.sink) i.shares
    (subst (λ (r : Reading). Fails settings piece r (g.K.Sink.taken c.loop-done.sink) (g.K.Sink.taken c.write_parts.new.sink)) (sym here) fails))

pub loop-done-preserved-in-Some : goal.loop-done-preserved-in-Some
loop-done-preserved-in-Some g c =
    let settings = c.args.engine.now.settings in
    let piece = c.args.piece.now in
    let i = c.loop-done.invariant in
    let old = g.K.Sink.taken c.args.sink.now in
    let mid = g.K.Sink.taken c.loop-done.sink in
    let new = g.K.Sink.taken c.write_parts.new.sink in
    let place = c.in-Some.place in
    let reach = c.in_ok-reach-in-Some.reach in
    let ok = c.in_ok-reach-in-Some.ensures in
    let start : Reading = reading 0 c.args.lines.now c.args.moments.now in
    let now : Reading = reading c.loop-done.done c.loop-done.lines c.loop-done.moments in
    let here : now ≡ reading_at place = subst (λ (h : Option Checkpoint). IfSome h (λ place. now ≡ reading_at place)) c.in-Some.is i.here in
    let set = c.config-in-Some.ensures.value ∙ i.same in
    record {
      filled = subst (λ (s : Settings). All (IsFilled s piece) c.write_parts.new.batch.lanes.items) set c.write_parts.ensures.filled;
      same = i.same;
      within = ok.there.within;
      lines = subst (λ (l : LinesState). HasLines (length piece - reach.upto.done) l) (sym c.lines.ensures) (lines-there piece reach.upto ok.there);
      here = tt;
      there = tt;
      shares = subst (λ (r : Reading). Shares settings piece start r c.either-refused.result old new)
          (sym (same-reading reach.upto.done c.lines.result (lines_at reach.upto) c.moments.result (moments_at reach.upto) c.lines.ensures c.moments.ensures))
          (subst (λ (b : Bool). Shares settings piece start (reading_at reach.upto) b old new) (sym c.either-refused.ensures)
          (shares-join settings piece start (reading_at place) (reading_at reach.upto) c.loop-done.refused reach.refused old mid new
          (subst (λ (r : Reading). Shares settings piece start r c.loop-done.refused old mid) here i.shares)
          (subst (λ (s : Settings). Shares s piece (reading_at place) (reading_at reach.upto) reach.refused mid new) set ok.ok)));
      calm = ok.cause.steady ∙ i.calm;
    }

pub returns-in_err-write_here-in-None-clause-err : goal.returns-in_err-write_here-in-None-clause-err
returns-in_err-write_here-in-None-clause-err g c =
    let settings = c.args.engine.now.settings in
    let piece = c.args.piece.now in
    let i = c.loop-done.invariant in
    let event = c.in-Some-next_of_lines.event in
    let next = c.next_of_lines.new in
    let said = c.in_err-write_here-in-None.ensures.says in
    on_err _ _ (fails-event settings piece (reading 0 c.args.lines.now c.args.moments.now) (reading c.loop-done.done c.loop-done.lines c.loop-done.moments)
    (reading next.done next.lines next.moments) c.loop-done.refused event said.0 (g.K.Sink.taken c.args.sink.now) (g.K.Sink.taken c.loop-done.sink) (g.K.Sink.taken c.write_here.new.sink)
    i.shares c.in-Some-next_of_lines.ensures.kept c.next_of_lines.ensures.within c.next_of_lines.ensures.lines
    (subst (λ (s : Settings). IsEventText s event said.0) i.same said.1) said.2.front)

pub loop-done-preserved-in-Some-next_of_lines : goal.loop-done-preserved-in-Some-next_of_lines
loop-done-preserved-in-Some-next_of_lines g c =
    let settings = c.args.engine.now.settings in
    let piece = c.args.piece.now in
    let i = c.loop-done.invariant in
    let event = c.in-Some-next_of_lines.event in
    let next = c.next_of_lines.new in
    let said = c.in_ok-write_here-in-None.ensures.says in
    let behind = c.place_behind-here in
    record {
      filled = i.filled;
      same = c.write_here.ensures.kept ∙ i.same;
      within = c.next_of_lines.ensures.within;
      lines = c.next_of_lines.ensures.lines;
      here = behind.ensures.stands;
      there = behind-there piece next.done next.lines next.moments behind.result behind.ensures.stands c.next_of_lines.ensures.within c.next_of_lines.ensures.lines behind.ensures.counted
          behind.ensures.format;
      shares = shares-event settings piece (reading 0 c.args.lines.now c.args.moments.now) (reading c.loop-done.done c.loop-done.lines c.loop-done.moments)
          (reading next.done next.lines next.moments) c.loop-done.refused c.any_refusal-refused.result event said.0 (g.K.Sink.taken c.args.sink.now) (g.K.Sink.taken c.loop-done.sink)
          (g.K.Sink.taken c.write_here.new.sink) i.shares c.in-Some-next_of_lines.ensures.kept (subst (λ (s : Settings). IsEventText s event said.0) i.same said.1) said.2.whole
          c.any_refusal-refused.ensures;
      calm = said.2.cause.steady ∙ i.calm;
    }

pub loop-done-preserved : goal.loop-done-preserved
loop-done-preserved g c =
    let settings = c.args.engine.now.settings in
    let piece = c.args.piece.now in
    let i = c.loop-done.invariant in
    let next = c.next_of_lines.new in
    let after : Reading = reading next.done next.lines next.moments in
    record {
      filled = i.filled;
      same = i.same;
      within = c.next_of_lines.ensures.within;
      lines = c.next_of_lines.ensures.lines;
      here = subst (λ (h : Option Checkpoint). IfSome h (λ place. after ≡ reading_at place)) (sym c.in-None.is) tt;
      there = subst (λ (h : Option Checkpoint). IfSome h (IsCheckpoint piece)) (sym c.in-None.is) tt;
      shares = shares-pass settings piece (reading 0 c.args.lines.now c.args.moments.now) (reading c.loop-done.done c.loop-done.lines c.loop-done.moments) after c.loop-done.refused _ _ i.shares
          c.in_default.ensures.kept;
      calm = i.calm;
    }
