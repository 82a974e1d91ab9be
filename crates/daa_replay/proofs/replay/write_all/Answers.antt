use Rattle.std.proofs.Common.{arith, rules, sym, subst, length}
use Rattle.daa_lines.specs.LinesOf.{Bytes}
use Rattle.daa_ahead.specs.Moves.{wants_more}
use Rattle.daa_replay.specs.Inside.Replay.{CanReport, Course, Steps, course}
use Rattle.daa_replay.proofs.CourseLemmas.{Held, can_report, held_desk, moves_of, stays_bytes, steps_bytes}
use Rattle.daa_replay.proofs.replay.write_all.Goals as goal

pub read_for-requires-clause-can : goal.read_for-requires-clause-can
read_for-requires-clause-can g c _ _ pieces later piece t fits x same =
    let at : Held g.row.R.Denot g.row.K.Denot g.row.G.Denot → Course = held_desk g.K.Sink.taken g.K.Sink.faults in (
      subst (λ (b : Bytes). CanReport (at later) (length b)) (sym same)
          (can_report _ at (λ t piece answer u s. subst (λ (b : Bytes). Steps (at t) b answer (at u)) s.1 s.2.met.1) c.args.most _ pieces later piece c.requires.between
          c.requires.begun (omega (arith, c.requires.bound)) t fits),
      (
        search rules,
        record { shared = c.type_bounds.sync-R.shared },
        record { shared = c.type_bounds.sync-G.shared },
      ),
    )

pub returns : goal.returns
returns g c =
    let at : Held g.row.R.Denot g.row.K.Denot g.row.G.Denot → Course = held_desk g.K.Sink.taken g.K.Sink.faults in
    let m = c.read_for.ensures in
    let engine = c.engine-1.given.1 (sym (stays_bytes _ (λ (t : Held g.row.R.Denot g.row.K.Denot g.row.G.Denot). t.call.1.ghost_name) (λ t piece answer u s. s.2.met.0.1) _ _ _ _ m.given)) in
    let sink = c.sink-1.given.1 (sym (stays_bytes _ (λ (t : Held g.row.R.Denot g.row.K.Denot g.row.G.Denot). t.call.2.ghost_name) (λ t piece answer u s. s.2.met.0.2) _ _ _ _ m.given)) in
    let progress = c.progress-1.given.1 (sym (stays_bytes _ (λ (t : Held g.row.R.Denot g.row.K.Denot g.row.G.Denot). t.call.3.ghost_name) (λ t piece answer u s. s.2.met.0.3) _ _ _ _ m.given)) in
    record {
      moves = moves_of _ _ _ _ _ _ _ (λ bytes taken.
          subst (λ (d : Course). Steps (course c.args.engine.now.settings c.args.progress.now (g.K.Sink.taken c.args.sink.now)
          (g.K.Sink.faults c.args.sink.now)) bytes (wants_more c.read_for.result) d)
          (λ i. course (sym engine i).settings (sym progress i) (g.K.Sink.taken (sym sink i)) (g.K.Sink.faults (sym sink i)))
          (steps_bytes _ at (λ t piece answer u s. subst (λ (b : Bytes). Steps (at t) b answer (at u)) s.1 s.2.met.1) _ _ _ bytes c.requires.between taken))
          m;
    }
