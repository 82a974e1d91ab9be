use Rattle.std.proofs.Common.{◌≡◌, Err, Result, ap, map, refl, string_bytes}
use Rattle.daa_replay.specs.declared.opening.Ready.{Ready}
use Rattle.daa_replay.specs.declared.opening.Unready.{Unready}
use Rattle.daa_replay.specs.Outside.{Outside, outside, shelf_state}
use Rattle.daa_ahead.specs.Bytes.{stream_state}
use Rattle.daa_replay.proofs.RunLemmas.{performs_runs, reason_runs}
use Rattle.daa_replay.proofs.program.run_words.Goals as goal

pub returns-in-Ok : goal.returns-in-Ok
returns-in-Ok g c =
    let old : Outside = outside (shelf_state (g.F.Shelf.texts c.args.shelf.now) (g.F.Shelf.faults c.args.shelf.now))
    (stream_state (g.S.Source.left c.args.source.now) (g.S.Source.faults c.args.source.now))
    (stream_state (g.K.Sink.taken c.args.sink.now) (g.K.Sink.faults c.args.sink.now)) in
    let new : Outside = outside (shelf_state (g.F.Shelf.texts c.open.new.shelf) (g.F.Shelf.faults c.open.new.shelf))
    (stream_state (g.S.Source.left c.run_work.new.source) (g.S.Source.faults c.run_work.new.source))
    (stream_state (g.K.Sink.taken c.run_work.new.sink) (g.K.Sink.faults c.run_work.new.sink)) in
    let made = c.in-Ok.ensures in
    let ready = c.in-Ok.ready in
    performs_runs c.args.most (map string_bytes c.args.words.now) old new made.kept made.never_falls ready.engine.settings
    made.opened.0 ready.work c.run_work.result (made.no_fault (λ e. cc e)) made.opened.1 made.opened.2 (c.run_work.ensures old.shelf new.shelf)

pub returns-in-Err : goal.returns-in-Err
returns-in-Err g c =
    let made = c.in-Err.ensures in
    reason_runs c.args.most _ _ _ made.kept made.never_falls refl c.in-Err.why c.write_reason.result made.opened c.write_reason.ensures
    (λ e. made.risen (ap Err e)) (λ n. made.no_fault (λ e. n (err_is _ _ e)))
  where
    err_is : (a b : Unready) → ◌≡◌ {A = Result Ready Unready} (Err a) (Err b) → a ≡ b
    err_is a b e = cc
