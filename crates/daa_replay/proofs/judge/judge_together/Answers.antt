use Rattle.std.proofs.Common.{◌≡◌, ◌∙◌, ◌-◌, ◌++◌, All, IfSome, Option, arith, length, refl, subst, sym, take}
use Rattle.daa_ahead.specs.Bytes.{StreamState, stream_state}
use Rattle.daa_config.specs.Settings.{Settings}
use Rattle.daa_judge.specs.declared.found.Found.TheVariants as found
use Rattle.daa_lines.specs.LinesState.{LinesState}
use Rattle.daa_replay.specs.declared.checkpoint.Checkpoint.{Checkpoint}
use Rattle.daa_replay.specs.Inside.Batch.{IsFilled}
use Rattle.daa_replay.specs.Inside.Events.{HasLines}
use Rattle.daa_replay.specs.Inside.Judge.{ComparesBetween, StopsBetween}
use Rattle.daa_replay.specs.Inside.Checkpoint.{IsCheckpoint, Reading, lines_at, moments_at, reading, reading_at}
use Rattle.daa_replay.proofs.JudgeLemmas.{between-event, between-join, between-none, between-pass, stops-later}
use Rattle.daa_replay.proofs.CheckpointLemmas.{behind-there, lines-there, same-reading}
use Rattle.daa_replay.proofs.judge.judge_together.Goals as goal

pub loop-done-init : goal.loop-done-init
loop-done-init g c =
    let settings = c.args.engine.now.settings in
    let piece = c.args.piece.now in
    let front = c.place_in_front-here in
    let start : Reading = reading 0 c.args.progress.now.lines c.args.progress.now.moments in
    let has : HasLines (length piece - 0) front.new.lines = record { free = front.ensures.free; going = front.ensures.going; room = omega (arith, front.ensures.fed, c.requires.lines.room) } in
    record {
      filled = subst (λ (s : Settings). All (IsFilled s piece) c.clear_lanes.new.batch.lanes.items) c.config.ensures.value c.clear_lanes.ensures;
      same = refl;
      left = refl;
      within = omega arith;
      lines = has;
      here = front.ensures.stands;
      there = behind-there piece 0 front.new.lines front.new.moments front.result front.ensures.stands (omega arith) has front.ensures.counted front.ensures.format;
      room = c.requires.room;
      never_falls = omega arith;
      matched = between-pass settings piece start start (reading 0 front.new.lines front.new.moments) _ _ _ _
          (between-none settings piece start c.args.comparison.now.matching (stream_state (g.S.Source.left c.args.source.now) (g.S.Source.faults c.args.source.now)))
          (λ bytes given f. front.ensures.kept (bytes ++ take 0 piece) given f);
    }

pub loop-done-preserved-in-Ok : goal.loop-done-preserved-in-Ok
loop-done-preserved-in-Ok g c =
    let settings = c.args.engine.now.settings in
    let piece = c.args.piece.now in
    let i = c.loop-done.invariant in
    let parts = c.judge_parts in
    let place = c.in-Some.place in
    let upto = c.in-Ok.upto in
    let start : Reading = reading 0 c.args.progress.now.lines c.args.progress.now.moments in
    let now : Reading = reading c.loop-done.done c.loop-done.progress.lines c.loop-done.progress.moments in
    let here : now ≡ reading_at place = subst (λ (h : Option Checkpoint). IfSome h (λ place. now ≡ reading_at place)) c.in-Some.is i.here in
    let set = c.config-in-Some.ensures.value ∙ i.same in
    let old : StreamState = stream_state (g.S.Source.left c.args.source.now) (g.S.Source.faults c.args.source.now) in
    let mid : StreamState = stream_state (g.S.Source.left c.loop-done.source) (g.S.Source.faults c.loop-done.source) in
    let new : StreamState = stream_state (g.S.Source.left parts.new.source) (g.S.Source.faults parts.new.source) in
    let first = c.args.comparison.now.matching in
    let before = c.loop-done.comparison.matching in
    let after = parts.new.matching in
    record {
      filled = subst (λ (s : Settings). All (IsFilled s piece) parts.new.batch.lanes.items) set parts.ensures.filled;
      same = i.same;
      left = i.left;
      within = c.in-Ok.ensures.there.within;
      lines = subst (λ (l : LinesState). HasLines (length piece - upto.done) l) (sym c.lines-progress.ensures) (lines-there piece upto c.in-Ok.ensures.there);
      here = tt;
      there = tt;
      room = parts.ensures.room;
      never_falls = omega (arith, i.never_falls, parts.ensures.never_falls);
      matched = subst (λ (r : Reading). ComparesBetween settings piece start r found.Alike first after old new)
          (sym (same-reading upto.done c.lines-progress.result (lines_at upto) c.moments-progress.result (moments_at upto) c.lines-progress.ensures c.moments-progress.ensures))
          (between-join settings piece start (reading_at place) (reading_at upto) found.Alike first before after old mid new
          (subst (λ (r : Reading). ComparesBetween settings piece start r found.Alike first before old mid) here i.matched)
          (subst (λ (s : Settings). ComparesBetween s piece (reading_at place) (reading_at upto) found.Alike before after mid new) set c.in-Ok.ensures.ok));
    }

pub returns-in-Err-clause-err : goal.returns-in-Err-clause-err
returns-in-Err-clause-err g c =
    let settings = c.args.engine.now.settings in
    let piece = c.args.piece.now in
    let i = c.loop-done.invariant in
    let parts = c.judge_parts in
    let place = c.in-Some.place in
    let stop = c.in-Err.found in
    let start : Reading = reading 0 c.args.progress.now.lines c.args.progress.now.moments in
    let now : Reading = reading c.loop-done.done c.loop-done.progress.lines c.loop-done.progress.moments in
    let here : now ≡ reading_at place = subst (λ (h : Option Checkpoint). IfSome h (λ place. now ≡ reading_at place)) c.in-Some.is i.here in
    let set = c.config-in-Some.ensures.value ∙ i.same in
    let old : StreamState = stream_state (g.S.Source.left c.args.source.now) (g.S.Source.faults c.args.source.now) in
    let mid : StreamState = stream_state (g.S.Source.left c.loop-done.source) (g.S.Source.faults c.loop-done.source) in
    let new : StreamState = stream_state (g.S.Source.left parts.new.source) (g.S.Source.faults parts.new.source) in
    let first = c.args.comparison.now.matching in
    let before = c.loop-done.comparison.matching in
    let after = parts.new.matching in
    stops-later settings piece start now stop first before after old mid new i.matched
    (subst (λ (r : Reading). StopsBetween settings piece r stop before after mid new) (sym here)
    (subst (λ (s : Settings). StopsBetween s piece (reading_at place) stop before after mid new) set c.in-Err.ensures.err))

pub loop-done-preserved-in-Ok-judge_event : goal.loop-done-preserved-in-Ok-judge_event
loop-done-preserved-in-Ok-judge_event g c =
    let settings = c.args.engine.now.settings in
    let piece = c.args.piece.now in
    let i = c.loop-done.invariant in
    let event = c.in-Some-next_of_lines.event in
    let next = c.next_of_lines.new in
    let behind = c.place_behind-here in
    let start : Reading = reading 0 c.args.progress.now.lines c.args.progress.now.moments in
    let now : Reading = reading c.loop-done.done c.loop-done.progress.lines c.loop-done.progress.moments in
    let after : Reading = reading next.done next.lines next.moments in
    record {
      filled = i.filled;
      same = c.judge_event.ensures.same ∙ i.same;
      left = i.left;
      within = c.next_of_lines.ensures.within;
      lines = c.next_of_lines.ensures.lines;
      here = behind.ensures.stands;
      there = behind-there piece next.done next.lines next.moments behind.result behind.ensures.stands c.next_of_lines.ensures.within c.next_of_lines.ensures.lines behind.ensures.counted
          behind.ensures.format;
      room = c.judge_event.ensures.room;
      never_falls = omega (arith, i.never_falls, c.judge_event.ensures.never_falls);
      matched = between-join settings piece start now after _ _ _ _ _ _ _ i.matched
          (between-event settings piece now after c.loop-done.engine.settings i.same event _ _ _ _ _ c.in-Some-next_of_lines.ensures.kept c.in-Ok-judge_event.ensures.compares);
    }

pub returns-in-Err-judge_event-clause-err : goal.returns-in-Err-judge_event-clause-err
returns-in-Err-judge_event-clause-err g c =
    let settings = c.args.engine.now.settings in
    let piece = c.args.piece.now in
    let i = c.loop-done.invariant in
    let event = c.in-Some-next_of_lines.event in
    let next = c.next_of_lines.new in
    let start : Reading = reading 0 c.args.progress.now.lines c.args.progress.now.moments in
    let now : Reading = reading c.loop-done.done c.loop-done.progress.lines c.loop-done.progress.moments in
    let after : Reading = reading next.done next.lines next.moments in
    stops-later settings piece start now _ _ _ _ _ _ _ i.matched (record {
      stops = c.in-Err-judge_event.ensures.stops;
      upto = after;
      within = c.next_of_lines.ensures.within;
      can = c.next_of_lines.ensures.lines;
      compared = between-event settings piece now after c.loop-done.engine.settings i.same event _ _ _ _ _ c.in-Some-next_of_lines.ensures.kept c.in-Err-judge_event.ensures.compares;
    })

pub loop-done-preserved : goal.loop-done-preserved
loop-done-preserved g c =
    let settings = c.args.engine.now.settings in
    let piece = c.args.piece.now in
    let i = c.loop-done.invariant in
    let next = c.next_of_lines.new in
    let start : Reading = reading 0 c.args.progress.now.lines c.args.progress.now.moments in
    let now : Reading = reading c.loop-done.done c.loop-done.progress.lines c.loop-done.progress.moments in
    let after : Reading = reading next.done next.lines next.moments in
    record {
      filled = i.filled;
      same = i.same;
      left = i.left;
      within = c.next_of_lines.ensures.within;
      lines = c.next_of_lines.ensures.lines;
      here = subst (λ (h : Option Checkpoint). IfSome h (λ place. after ≡ reading_at place)) (sym c.in-None.is) tt;
      there = subst (λ (h : Option Checkpoint). IfSome h (IsCheckpoint piece)) (sym c.in-None.is) tt;
      room = i.room;
      never_falls = i.never_falls;
      matched = between-pass settings piece start now after _ _ _ _ i.matched c.in_default.ensures.kept;
    }
